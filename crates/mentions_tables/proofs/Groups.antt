-- A mention is ambiguous exactly if it is in a group.
use Rattle.std.proofs.Common.{◌≡◌, ℕ, ◌+◌, Bool, true, false, cond, not, ◌&&◌, ◌||◌, Some, None, Option, List, [], ◌∷◌, refl, sym, true≢false}
use Rattle.std.specs.Option.{option_or}
use Rattle.std.specs.Prelude.{bytes_eq, filter, find, is_some, nat_eq, option_map}
use Rattle.std.specs.List.{enumerate_from, list_any}
use Rattle.std.proofs.lemmas.Bool.{and_parts}
use Rattle.mentions_groups.specs.Groups.{first_among, first_with, group_of, has_text, is_ambiguous, is_rival, leader}
use Rattle.mentions_groups.specs.declared.mention.Mention.{Mention}

found-from : (m : Mention) (b : ℕ) (ms : List Mention) → list_any (is_rival m) ms ≡ true → is_some (option_map (λ p. p.0) (find (λ p. bytes_eq m.text p.1.text) (enumerate_from b ms))) ≡ true
found-from m b [] h = absurd (true≢false (sym h))
found-from m b (x ∷ ms) h = by (bytes_eq m.text x.text) h (found-from m (b + 1) ms)
  where
    by : (same : Bool) → ((same && not (nat_eq m.entry x.entry)) || list_any (is_rival m) ms) ≡ true
        → (list_any (is_rival m) ms ≡ true → is_some (option_map (λ p. p.0) (find (λ p. bytes_eq m.text p.1.text) (enumerate_from (b + 1) ms))) ≡ true)
        → is_some (option_map (λ p. p.0) (cond same (Some (b, x)) (find (λ p. bytes_eq m.text p.1.text) (enumerate_from (b + 1) ms)))) ≡ true
    by true h more = refl
    by false h more = more h

pub in-group : (ms : List Mention) (m : Mention) → is_some (group_of ms m) ≡ is_ambiguous ms m
in-group ms m = by (is_ambiguous ms m) refl
  where
    led : (o p : Option ℕ) → is_some p ≡ true → is_some (option_or o p) ≡ true
    led None p h = h
    led (Some n) p h = refl

    by : (b : Bool) → is_ambiguous ms m ≡ b → is_some (cond b (leader ms m.text) None) ≡ b
    by true h = led (first_among (filter (λ p. p.1.occurs) (enumerate_from 0 ms)) m.text) (first_with ms m.text) (found-from m 0 ms (and_parts (has_text m) (list_any (is_rival m) ms) h).1)
    by false h = refl
