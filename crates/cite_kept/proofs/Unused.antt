-- Versions under which nothing is kept, after values have changed.
use Rattle.std.proofs.Common.{◌≡◌, ℕ, ◌<◌, cond, List, Option, Some, None, refl, ap, sym, ◌∙◌, arith}
use Rattle.std.specs.Prelude.{IsSome, is_some, nat_lt}
use Rattle.std.specs.BTreeMap.{is_at}
use Rattle.std.specs.List.{list_any}
use Rattle.std.specs.Map.{keys_of}
use Rattle.std.specs.Ordering.{is_eq, nat_cmp, ordering_then}
use Rattle.std.specs.declared.cmp.Ordering.{Ordering}
use Rattle.std.specs.declared.cmp.Ordering.TheVariants.{Less}
use Rattle.std.proofs.lemmas.Bool.{cond-false, cond-true, lt-ltb, true≢false}
use Rattle.std.proofs.lemmas.Map.Made.{is_some-lookup}
use Rattle.cite_kept.specs.KeptValues.{UnusedFrom, entry_at, key_cmp}
use Rattle.cite_kept.specs.declared.kept.Asked.{Asked}
use Rattle.cite_kept.specs.declared.versions.Version.{Version}

pub none-stays : {A : Type 0} (old new : Option A) → (IsSome new → IsSome old) → old ≡ None → new ≡ None
none-stays old None h e = refl
none-stays old (Some x) h e = absurd (true≢false (sym (h refl) ∙ ap is_some e))

less : (a b : ℕ) → a < b → nat_cmp a b ≡ Less
less a b l = cond-true (nat_lt a b) Less _ (lt-ltb a b l)

module _ {K V : Type 0} (cmp : K → K → Ordering) (given : ℕ) (old new : List ((Version × K) × Asked V)) (unused : UnusedFrom cmp given old) where
  -- the same keys
  pub unused-keys : keys_of new ≡ keys_of old → UnusedFrom cmp given new
  unused-keys same version rest above =
      let test = is_at (key_cmp cmp (version, rest)) in
      none-stays (entry_at cmp old (version, rest)) (entry_at cmp new (version, rest))
      (λ some. is_some-lookup test old ∙ ap (list_any test) (sym same) ∙ sym (is_some-lookup test new) ∙ some)
      (unused version rest above)

  -- one more key, under a version that was given
  pub unused-kept : (key : Version × K) (now : Option (Asked V)) → key.0.number < given
      → ((other : Version × K) → entry_at cmp new other ≡ cond (is_at (key_cmp cmp key) other) now (entry_at cmp old other))
      → UnusedFrom cmp given new
  unused-kept key now below at version rest above =
      at (version, rest)
      ∙ cond-false (is_at (key_cmp cmp key) (version, rest)) now (entry_at cmp old (version, rest))
      (ap (λ o. is_eq (ordering_then o (cmp key.1 rest))) (less key.0.number version.number (omega (arith, below, above))))
      ∙ unused version rest above
