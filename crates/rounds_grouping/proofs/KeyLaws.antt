-- Equality of the keys of blocks decides equality, and the code tests it.
use Rattle.std.proofs.Common.{◌≡◌, Bool, true, refl, ap, sym, subst, true≢false}
use Rattle.std.specs.Cmp.{IsEquivalence, unsigned_Decides}
use Rattle.list_lemmas.proofs.Tests.{same_test}
use Rattle.value_trees.proofs.EqualTrees.{elem_Decides}
use Rattle.rounds_grouping.specs.Steps.{key_view}
use Rattle.rounds_grouping.specs.contracts.blocks.KeyPartialEq.TheImpl as key_eq
use Rattle.rounds_grouping.specs.declared.blocks.Key.{Key}
use Rattle.rounds_grouping.specs.declared.blocks.Key.TheVariants as key
use Rattle.rounds_grouping.specs.BlockKeys.{BlockKey, named, alone, same_key}

pub equal : (a b : BlockKey) → same_key a b ≡ true → a ≡ b
equal (named a) (named b) e = ap named ((elem_Decides a b).0 e)
equal (alone j) (alone k) e = ap alone ((unsigned_Decides j k).0 e)
equal _ _ e = absurd (true≢false (sym e))

self : (a : BlockKey) → same_key a a ≡ true
self (named a) = (elem_Decides a a).1 refl
self (alone k) = (unsigned_Decides k k).1 refl

flip : (a b : BlockKey) → same_key a b ≡ true → same_key b a ≡ true
flip a b e = subst (λ x. same_key x a ≡ true) (equal a b e) (self a)

pub key_laws : IsEquivalence same_key
key_laws = record {
  refl = self;
  symm = λ a b. same_test (same_key a b) (same_key b a) (flip a b) (flip b a);
  congr = λ a b c e. ap (λ x. same_key x c) (equal a b e);
}

-- those of the code
abbrev pub same : Key → Key → Bool
same a b = same_key (key_view a) (key_view b)

same_is : (a b : Key) → (key_eq.ghosts).eq a b ≡ same a b
same_is (key.Named a) (key.Named b) = refl
same_is (key.Named a) (key.Alone k) = refl
same_is (key.Alone j) (key.Named b) = refl
same_is (key.Alone j) (key.Alone k) = refl

-- as one test of the keys
pub test_is : (a : Key) → (key_eq.ghosts).eq a ≡ same a
test_is a = λ i b. same_is a b i
