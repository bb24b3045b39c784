-- Names of macros, as they are gathered.
use Rattle.std.proofs.Common.{◌≡◌, ℕ, zero, suc, ◌+◌, ◌-◌, ◌<◌, ◌≤◌, List, [], ◌∷◌, ◌++◌, length, get_or, append_assoc, length-append, Bool, true, false, is_some, inl, inr, sym, ap, ◌∙◌, refl, subst, arith}
use Rattle.std.proofs.lemmas.List.{append-nil}
use Rattle.value_styles.specs.Element.{Name, Macro}
use Rattle.value_styles.specs.Calls.{Names}
use Rattle.value_styles.specs.Ring.{has_name, body_of}
use Rattle.driver_styles.specs.Gathered.{with_new_name, gather_new, gather_each}
use Rattle.driver_styles.proofs.NameLists.{has_name-left, has_name-right, has_name-either, has_name-one, has_name-same, left, left-lt}

-- what one more name changes
pub record IsAdded (ms : List Macro) (bs os ns : Names) : Type 0 where
  pub extra : Names
  pub appends : ns ≡ os ++ extra
  pub covers : (b : Name) → has_name b bs ≡ true → is_some (body_of b ms) ≡ true → has_name b ns ≡ true
  pub only : (b : Name) → has_name b extra ≡ true → has_name b bs ≡ true
  pub leaves : left ns ms + length ns ≤ left os ms + length os

is_added-one : (ms : List Macro) (b : Name) (os : Names) (has there : Bool) → has ≡ is_some (body_of b ms) → there ≡ has_name b os → IsAdded ms (b ∷ []) os (with_new_name has there b os)
is_added-one ms b os true false h t = record {
  extra = b ∷ [];
  appends = refl;
  covers = λ c e _. has_name-right c os (b ∷ []) e;
  only = λ c e. e;
  leaves = omega (arith, left-lt b os (os ++ b ∷ []) ms (sym h) (sym t) (λ c k. has_name-left c os (b ∷ []) k) (has_name-right b os (b ∷ []) (has_name-one b)), length-append os (b ∷ []));
}
is_added-one ms b os true true h t = record {
  extra = [];
  appends = sym (append-nil os);
  covers = λ c e _. subst (λ x. has_name x os ≡ true) (has_name-same c b e) (sym t);
  only = λ c e. cc;
  leaves = omega arith;
}
is_added-one ms b os false there h t = record {
  extra = [];
  appends = sym (append-nil os);
  covers = λ c e s. let same : b ≡ c = has_name-same c b e in cc;
  only = λ c e. cc;
  leaves = omega arith;
}

pub is_added : (ms : List Macro) (bs os : Names) → IsAdded ms bs os (gather_each ms bs os)
is_added ms [] os = record {
  extra = [];
  appends = sym (append-nil os);
  covers = λ c e _. cc;
  only = λ c e. cc;
  leaves = omega arith;
}
is_added ms (b ∷ bs) os =
    let one = is_added-one ms b os (is_some (body_of b ms)) (has_name b os) refl refl in
    let rest = is_added ms bs (gather_new ms b os) in
    record {
      extra = one.extra ++ rest.extra;
      appends = rest.appends ∙ ap (λ xs. xs ++ rest.extra) one.appends ∙ append_assoc os one.extra rest.extra;
      covers = λ c e s. elim (has_name-either c (b ∷ []) bs e) [
        | inl h ↦ subst (λ xs. has_name c xs ≡ true) (sym rest.appends) (has_name-left c (gather_new ms b os) rest.extra (one.covers c h s))
        | inr h ↦ rest.covers c h s
      ];
      only = λ c e. elim (has_name-either c one.extra rest.extra e) [
        | inl h ↦ has_name-left c (b ∷ []) bs (one.only c h)
        | inr h ↦ has_name-right c (b ∷ []) bs (rest.only c h)
      ];
      leaves = omega (arith, one.leaves, rest.leaves);
    }

pub grows : (ms : List Macro) (bs os : Names) (c : Name) → has_name c os ≡ true → has_name c (gather_each ms bs os) ≡ true
grows ms bs os c h =
    let added = is_added ms bs os in
    subst (λ xs. has_name c xs ≡ true) (sym added.appends) (has_name-left c os added.extra h)

pub has_name-at : (x : Name) (ns : Names) (i : ℕ) → i < length ns → x ≡ get_or ns i x → has_name x ns ≡ true
has_name-at x [] i lt e = absurd (omega arith)
has_name-at x (y ∷ ys) zero lt e = subst (λ z. has_name x (z ∷ ys) ≡ true) e (has_name-left x (x ∷ []) ys (has_name-one x))
has_name-at x (y ∷ ys) (suc i) lt e = has_name-right x (y ∷ []) ys (has_name-at x ys i (omega arith) e)

pub falls : (ms : List Macro) (bs ns : Names) (at : ℕ) → at < length ns → left (gather_each ms bs ns) ms + (length (gather_each ms bs ns) - (at + 1)) < left ns ms + (length ns - at)
falls ms bs ns at lt =
    let added = is_added ms bs ns in
    omega (arith, added.leaves, ap length added.appends, length-append ns added.extra)
