-- Equality of trees as a test.
use Rattle.std.specs.Prelude.{◌≡◌, Bool, true, false, ◌&&◌, ◌==◌, List, refl}
use Rattle.std.specs.Bool.{Decides, one_answer}
use Rattle.std.specs.Cmp.{IsEquivalence, unsigned_Decides}
use Rattle.std.proofs.Common.{ap, ap₂, sym, subst, true≢false}
use base.Stored.{Gv, gnil, gnum, gcons}
use Rattle.value_trees.specs.Child.{Child, coded_children}

abbrev pub same_codes : Gv → Gv → Bool
same_codes gnil gnil = true
same_codes (gnum m) (gnum n) = m == n
same_codes (gcons a b) (gcons c d) = same_codes a c && same_codes b d
same_codes _ _ = false

both_so : (a b : Bool) → a && b ≡ true → (a ≡ true) × (b ≡ true)
both_so true b e = (refl, e)
both_so false b e = absurd (true≢false (sym e))

pub codes_equal : (x y : Gv) → same_codes x y ≡ true → x ≡ y
codes_equal gnil gnil e = refl
codes_equal (gnum m) (gnum n) e = ap gnum ((unsigned_Decides m n).0 e)
codes_equal (gcons a b) (gcons c d) e =
    let p = both_so (same_codes a c) (same_codes b d) e in
    ap₂ gcons (codes_equal a c p.0) (codes_equal b d p.1)
codes_equal _ _ e = absurd (true≢false (sym e))

pub codes_refl : (x : Gv) → same_codes x x ≡ true
codes_refl gnil = refl
codes_refl (gnum m) = (unsigned_Decides m m).1 refl
codes_refl (gcons a b) = rw (codes_refl a, codes_refl b)

-- whether two trees are equal
unfoldable pub same_trees : List Child → List Child → Bool
same_trees xs ys = same_codes (coded_children.code xs) (coded_children.code ys)

pub same_trees-Decides : (xs ys : List Child) → Decides (same_trees xs ys) (xs ≡ ys)
unfolding same_trees
same_trees-Decides xs ys = (
  λ e. coded_children.inj xs ys (codes_equal _ _ e),
  λ p. subst (λ zs. same_codes (coded_children.code xs) (coded_children.code zs)
      ≡ true) p (codes_refl (coded_children.code xs)),
)

module _ {K : Type 0} (E : K → K → Bool) (d : (x y : K) → Decides (E x y) (x ≡ y)) where
  -- a test that decides equality is lawful
  pub equivalence_of : IsEquivalence E
  equivalence_of = record {
    refl = λ x. (d x x).1 refl;
    symm = λ x y. one_answer (E x y) (E y x) (d x y) (
      λ e. sym ((d y x).0 e),
      λ p. (d y x).1 (sym p),
    );
    congr = λ x y z e. ap (λ w. E w z) ((d x y).0 e);
  }

pub same_trees-laws : IsEquivalence same_trees
same_trees-laws = equivalence_of same_trees same_trees-Decides
