-- The looks that are held for a name, as one more comes in.
use mathlib.Core.Bool.{or-false}
use Rattle.std.proofs.Common.{◌≡◌, Bool, true, false, cond, not, ◌&&◌, ◌||◌, Some, None, Option, [], ◌∷◌, ◌++◌, refl, ap, sym, subst, ◌∙◌, true≢false}
use Rattle.std.specs.Prelude.{is_some}
use Rattle.std.specs.BTreeMap.{BTreeMap, is_at}
use Rattle.std.specs.Map.{lookup}
use Rattle.std.proofs.lemmas.List.{append-nil, append_assoc}
use Rattle.std.proofs.lemmas.List.Folds.{list_any-append}
use Rattle.mentions_names.specs.Looks.{same_look}
use Rattle.mentions_names.specs.Rivals.{AreRivals, Shown, TellsMore, held_for, held_with, is_other, is_other_held, is_other_shown, is_shown, same_name}
use Rattle.mentions_names.specs.contracts.rivals.SharedNameOrd.TheImpl as name_ord
use Rattle.mentions_names.specs.declared.look.Look.{Look}
use Rattle.mentions_names.specs.declared.rivals.Held.{Held}
use Rattle.mentions_names.specs.declared.rivals.SharedName.{SharedName}
use Rattle.mentions_names.proofs.Deciding.{looks_find, names_find}

both-alike : (r s a : Look) → same_look a s ≡ false → (not (same_look r s) || not (same_look r a)) ≡ true
both-alike r s a e = by (same_look r s) (same_look r a) refl refl
  where
    by : (b c : Bool) → same_look r s ≡ b → same_look r a ≡ c → (not b || not c) ≡ true
    by false c p q = refl
    by true false p q = refl
    by true true p q =
        let same : a ≡ s = sym (looks_find.equal r a q) ∙ looks_find.equal r s p in
        absurd (true≢false (sym (looks_find.self a) ∙ ap (same_look a) same ∙ e))

twice : (b : Bool) → b ≡ (b || b)
twice true = refl
twice false = refl

pub grows : (o : Option Held) (r a : Look) → is_other_held r (Some (held_with a o)) ≡ (is_other_held r o || not (same_look r a))
grows None r a = refl
grows (Some Held.Several) r a = refl
grows (Some (Held.One s)) r a = by (same_look a s) refl
  where
    by : (b : Bool) → same_look a s ≡ b → is_other r (cond (not b) Held.Several (Held.One s)) ≡ (not (same_look r s) || not (same_look r a))
    by true e =
        let same : a ≡ s = looks_find.equal a s e in
        twice (not (same_look r s)) ∙ ap (λ t. not (same_look r s) || not (same_look r t)) (sym same)
    by false e = sym (both-alike r s a e)

names-differ : (a b : SharedName) → same_name a b ≡ false → same_name b a ≡ false
names-differ a b e = by (same_name b a) refl
  where
    by : (c : Bool) → same_name b a ≡ c → c ≡ false
    by false p = refl
    by true p =
        let same : b ≡ a = names_find.equal b a p in
        absurd (true≢false (sym (names_find.self a) ∙ ap (same_name a) (sym same) ∙ e))

module _ (old new : BTreeMap SharedName Held) (name : SharedName) (a : Look)
    (at : (q : SharedName) → held_for new q ≡ cond (same_name name q) (Some (held_with a (held_for old name))) (held_for old q)) where
  pub one-more : TellsMore old new ((name, a) ∷ [])
  one-more es h = record {
    others = λ q r. ap (is_other_held r) (at q) ∙ others q r (same_name name q) refl ∙ sym (list_any-append _ es ((name, a) ∷ []));
    held = λ q. ap is_some (at q) ∙ held q (same_name name q) refl ∙ sym (list_any-append _ es ((name, a) ∷ []));
  }
    where
      others : (q : SharedName) (r : Look) (b : Bool) → same_name name q ≡ b
          → is_other_held r (cond b (Some (held_with a (held_for old name))) (held_for old q))
          ≡ (is_other_shown q r es || ((same_name q name && not (same_look r a)) || false))
      others q r true e =
          let same : name ≡ q = names_find.equal name q e in
          let own : same_name q name ≡ true = ap (λ n. same_name n name) (sym same) ∙ names_find.self name in
          grows (held_for old name) r a ∙ (λ i. is_other_held r (held_for old (same i)) || not (same_look r a))
          ∙ ap (λ c. c || not (same_look r a)) (h.others q r)
          ∙ ap (λ c. is_other_shown q r es || c) (sym (or-false _ ∙ ap (λ c. c && not (same_look r a)) own))
      others q r false e =
          h.others q r
          ∙ sym (ap (λ c. is_other_shown q r es || ((c && not (same_look r a)) || false)) (names-differ name q e) ∙ or-false _)

      held : (q : SharedName) (b : Bool) → same_name name q ≡ b
          → is_some (cond b (Some (held_with a (held_for old name))) (held_for old q)) ≡ (is_shown q es || (same_name q name || false))
      held q true e =
          let same : name ≡ q = names_find.equal name q e in
          let own : same_name q name ≡ true = ap (λ n. same_name n name) (sym same) ∙ names_find.self name in
          sym (ap (λ c. is_shown q es || (c || false)) own ∙ or-yes (is_shown q es))
        where
          or-yes : (c : Bool) → (c || true) ≡ true
          or-yes true = refl
          or-yes false = refl
      held q false e =
          h.held q ∙ sym (ap (λ c. is_shown q es || (c || false)) (names-differ name q e) ∙ or-false _)

-- nothing was shown yet
pub none-yet : (m : BTreeMap SharedName Held) → m.entries ≡ [] → AreRivals m []
none-yet m e = record {
  others = λ name r. ap (λ es. is_other_held r (lookup (is_at ((name_ord.ghosts).cmp name)) es)) e;
  held = λ name. ap (λ es. is_some (lookup (is_at ((name_ord.ghosts).cmp name)) es)) e;
}

pub tells-nothing : (m : BTreeMap SharedName Held) → TellsMore m m []
tells-nothing m es h = subst (AreRivals m) (sym (append-nil es)) h

pub then-more : (a b c : BTreeMap SharedName Held) (es fs : Shown) → TellsMore a b es → TellsMore b c fs → TellsMore a c (es ++ fs)
then-more a b c es fs p q gs h = subst (AreRivals c) (append_assoc gs es fs) (q (gs ++ es) (p gs h))
