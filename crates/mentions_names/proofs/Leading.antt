-- Where names lead: two ways meet exactly where they have led by the same looks from one group.
use Rattle.std.proofs.Common.{◌≡◌, ℕ, ◌<◌, ◌≤◌, zero, suc, Bool, ◌&&◌, Some, List, [], ◌∷◌, ◌++◌, length, take, refl, ap, sym, ◌∙◌, arith}
use Rattle.std.specs.Prelude.{nat_eq, slice_get}
use Rattle.std.specs.List.{list_any}
use Rattle.std.specs.Cmp.Lexicographic.{pointwise}
use Rattle.std.proofs.Math.Dec.{eqb-suc-suc, eqb-suc-zero, eqb-zero-suc}
use Rattle.std.proofs.lemmas.List.Sums.{fold-append}
use Rattle.mentions_names.specs.Gathered.{same_node}
use Rattle.mentions_names.specs.Looks.{same_look}
use Rattle.mentions_names.specs.Ways.{AreMade, Extends, lead, next, same_step, step}
use Rattle.mentions_names.specs.declared.look.Look.{Look}
use Rattle.mentions_names.specs.declared.rivals.Node.{Node}
use Rattle.mentions_names.specs.declared.ways.Step.{Step}
use Rattle.mentions_names.proofs.Deciding.{steps_find}
use Rattle.mentions_names.proofs.Logic.{and-assoc, and-false, and-yes}
use Rattle.mentions_names.proofs.Numbered.{listed-stays, number-stays, numbers-tell}

abbrev pub same_looks : List Look → List Look → Bool
same_looks = pointwise same_look

-- the member at i
pub record IsAt {X : Type 0} (xs : List X) (i : ℕ) : Type 0 where
  pub member : X
  pub there : slice_get xs i ≡ Some member
  pub one_more : take (suc i) xs ≡ take i xs ++ member ∷ []

pub at : {X : Type 0} (xs : List X) (i : ℕ) → i < length xs → IsAt xs i
at [] i h = absurd (omega arith)
at (x ∷ xs) zero h = record { member = x; there = refl; one_more = refl }
at (x ∷ xs) (suc i) h =
    let rest = at xs i (omega arith) in
    record { member = rest.member; there = rest.there; one_more = ap (λ l. x ∷ l) rest.one_more }

pub looks-push : (rs ss : List Look) (r s : Look) → same_looks (rs ++ r ∷ []) (ss ++ s ∷ []) ≡ (same_looks rs ss && same_look r s)
looks-push [] [] r s = and-yes (same_look r s)
looks-push [] (t ∷ []) r s = and-false (same_look r t)
looks-push [] (t ∷ u ∷ us) r s = and-false (same_look r t)
looks-push (t ∷ []) [] r s = and-false (same_look t s)
looks-push (t ∷ u ∷ us) [] r s = and-false (same_look t s)
looks-push (t ∷ ts) (u ∷ us) r s =
    ap (λ b. same_look t u && b) (looks-push ts us r s) ∙ sym (and-assoc (same_look t u) (same_looks ts us) (same_look r s))

module _ (steps : List Step) where
  -- one more name
  pub lead-push : (n : Node) (rs : List Look) (r : Look) → lead steps n (rs ++ r ∷ []) ≡ next steps (lead steps n rs) r
  lead-push n rs r = fold-append (next steps) n rs (r ∷ [])

  module _ (g h : ℕ) (r s : List Look) (made_r : AreMade steps g r (length r)) (made_s : AreMade steps h s (length s)) where
    at_r : ℕ → Node
    at_r i = lead steps (Node.Start g) (take i r)

    at_s : ℕ → Node
    at_s j = lead steps (Node.Start h) (take j s)

    pub same-lead : (i j : ℕ) → i ≤ length r → j ≤ length s
        → same_node (lead steps (Node.Start g) (take i r)) (lead steps (Node.Start h) (take j s)) ≡ (nat_eq g h && (nat_eq i j && same_looks (take i r) (take j s)))
    same-lead zero zero k l = sym (and-yes (nat_eq g h))
    same-lead zero (suc j) k l =
        let y = at s j (omega arith) in
        ap (λ t. same_node (Node.Start g) (lead steps (Node.Start h) t)) y.one_more
        ∙ ap (same_node (Node.Start g)) (lead-push (Node.Start h) (take j s) y.member)
        ∙ sym (ap (λ b. nat_eq g h && (b && same_looks [] (take (suc j) s))) (eqb-zero-suc j) ∙ and-false (nat_eq g h))
    same-lead (suc i) zero k l =
        let x = at r i (omega arith) in
        ap (λ t. same_node (lead steps (Node.Start g) t) (Node.Start h)) x.one_more
        ∙ ap (λ n. same_node n (Node.Start h)) (lead-push (Node.Start g) (take i r) x.member)
        ∙ sym (ap (λ b. nat_eq g h && (b && same_looks (take (suc i) r) [])) (eqb-suc-zero i) ∙ and-false (nat_eq g h))
    same-lead (suc i) (suc j) k l =
        let x = at r i (omega arith) in
        let y = at s j (omega arith) in
        let n = lead steps (Node.Start g) (take i r) in
        let m = lead steps (Node.Start h) (take j s) in
        (λ t. same_node (lead steps (Node.Start g) (x.one_more t)) (lead steps (Node.Start h) (y.one_more t)))
        ∙ (λ t. same_node (lead-push (Node.Start g) (take i r) x.member t) (lead-push (Node.Start h) (take j s) y.member t))
        ∙ numbers-tell same_step steps_find steps (step n x.member) (step m y.member) (made_r i x.member (omega arith) x.there) (made_s j y.member (omega arith) y.there)
        ∙ ap (λ b. b && same_look x.member y.member) (same-lead i j (omega arith) (omega arith))
        ∙ and-assoc (nat_eq g h) (nat_eq i j && same_looks (take i r) (take j s)) (same_look x.member y.member)
        ∙ ap (λ b. nat_eq g h && b) (and-assoc (nat_eq i j) (same_looks (take i r) (take j s)) (same_look x.member y.member))
        ∙ (λ t. nat_eq g h && (sym (eqb-suc-suc i j) t && sym (looks-push (take i r) (take j s) x.member y.member) t))
        ∙ (λ t. nat_eq g h && (nat_eq (suc i) (suc j) && same_looks (sym x.one_more t) (sym y.one_more t)))

-- steps that were made lead where they led
module _ (old new : List Step) (e : Extends old new) (g : ℕ) (looks : List Look) where
  pub lead-stays : (k : ℕ) → k ≤ length looks → AreMade old g looks k → (i : ℕ) → i ≤ k → lead new (Node.Start g) (take i looks) ≡ lead old (Node.Start g) (take i looks)
  lead-stays k within made zero h = refl
  lead-stays k within made (suc i) h =
      let x = at looks i (omega arith) in
      let n = lead old (Node.Start g) (take i looks) in
      ap (lead new (Node.Start g)) x.one_more ∙ lead-push new (Node.Start g) (take i looks) x.member
      ∙ ap (λ m. next new m x.member) (lead-stays k within made i (omega arith))
      ∙ ap (λ s. next s n x.member) e.is_more
      ∙ ap Node.Step (number-stays same_step old e.more (step n x.member) (made i x.member (omega arith) x.there))
      ∙ sym (lead-push old (Node.Start g) (take i looks) x.member)
      ∙ ap (lead old (Node.Start g)) (sym x.one_more)

  pub made-stays : (k : ℕ) → k ≤ length looks → AreMade old g looks k → AreMade new g looks k
  made-stays k within made i r h there =
      ap (λ n. list_any (same_step (step n r)) new) (lead-stays k within made i (omega arith))
      ∙ ap (λ s. list_any (same_step (step (lead old (Node.Start g) (take i looks)) r)) s) e.is_more
      ∙ listed-stays same_step old e.more (step (lead old (Node.Start g) (take i looks)) r) (made i r h there)
