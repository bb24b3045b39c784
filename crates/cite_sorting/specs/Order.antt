-- The order of cites by their values. `Has key cite value` says which value a cite has by a key.
use Rattle.std.specs.Prelude.{◌≡◌, ℕ, ◌<◌, ◌≤◌, List, [], ◌∷◌, ◌⊎◌, All, AllPairs, Vec, ⊤}
use Rattle.std.specs.declared.cmp.Ordering.{Ordering}
use Rattle.std.specs.declared.cmp.Ordering.TheVariants.{Less, Equal}
use Rattle.cite_sorting.specs.Ties.{indexes_in}

module _ {V : Type 0} (cmp : V → V → Ordering) (Has : ℕ → ℕ → V → Type 0) where
  -- the values of two cites by a key compare so
  abbrev pub Compare : Ordering → ℕ → ℕ → ℕ → Type 0
  Compare order key i j = (v : V) × (w : V) × Has key i v × Has key j w × (cmp v w ≡ order)

  -- they are equal by each of so many keys
  abbrev pub AreTied : ℕ → ℕ → ℕ → Type 0
  AreTied keys i j = (key : ℕ) → key < keys → Compare Equal key i j

  -- the first of so many keys by which they differ puts the one before the other
  abbrev pub Precedes : ℕ → ℕ → ℕ → Type 0
  Precedes keys i j = (key : ℕ) × (key < keys) × AreTied key i j × Compare Less key i j

  -- they are equal by all keys, and stand as they stood before
  abbrev pub Stays : ℕ → ℕ → ℕ → Type 0
  Stays keys i j = AreTied keys i j × (i ≤ j)

  -- each cite stands before the later ones by a key, or where it stood
  abbrev pub AreInOrder : ℕ → List ℕ → Type 0
  AreInOrder keys indexes = AllPairs (λ i j. Precedes keys i j ⊎ Stays keys i j) indexes

  -- the same of groups: the cites of each are equal by all keys, and precede those of later groups
  abbrev pub AreTies : {A : Type 0} → ℕ → List (Vec ℕ A) → Type 0
  AreTies keys [] = ⊤
  AreTies keys (tied ∷ ties) = AllPairs (Stays keys) tied.items
      × All (λ i. All (Precedes keys i) (indexes_in ties)) tied.items
      × AreTies keys ties
