-- Tests that tell what is seen of two values, and how they are put together.
use Rattle.std.specs.Prelude.{◌≡◌, ◌<◌, unsigned_abs, Bool, true, List, [], ◌∷◌, map, Option, Some, None, option_map, String, string_bytes, bytes_eq, refl}
use Rattle.std.specs.Cmp.{signed_Decides}
use Rattle.std.specs.Cmp.Lexicographic.{pointwise, pointwise_decides}
use Rattle.std.specs.Option.{option_eq}
use Rattle.std.specs.contracts.prelude.NonZeroI16PartialEq.TheImpl as spacing_eq
use Rattle.std.specs.declared.alloc.Global.{Global}
use Rattle.std.specs.declared.num.NonZeroI16.{NonZeroI16}
use Rattle.std.proofs.Math.Bridge.{le_prop}
use mathlib.Core.HLevel.{is_prop→PathP}
use Rattle.std.proofs.Common.{ap, sym, true≢false}
use Rattle.std.proofs.lemmas.Slice.Eq.{bytes_eq-Decides}
use Rattle.value_sources.specs.Finds.{both, and-true, decides, finds, options_find}
use Rattle.value_sources.specs.Tells.{TellsEqual, TellsSeen}

-- where values are told by what is seen of them, so are values that may be missing
pub some_seen : {A V : Type 0} {view : A → V} {test : A → A → Bool} → TellsSeen view test → TellsSeen (option_map view) (option_eq test)
some_seen {A = A} {V = V} {view = view} {test = test} told = λ a b. (to a b, from a b)
  where
    to : (a b : Option A) → option_eq test a b ≡ true → option_map view a ≡ option_map view b
    to None None e = refl
    to (Some x) (Some y) e = ap Some ((told x y).0 e)
    to _ _ e = absurd (true≢false (sym e))

    from : (a b : Option A) → option_map view a ≡ option_map view b → option_eq test a b ≡ true
    from None None p = refl
    from (Some x) (Some y) p = let same : view x ≡ view y = cc in (told x y).1 same
    from None (Some y) p = cc
    from (Some x) None p = cc

-- and so are lists, one by one
pub list_seen : {A V : Type 0} {view : A → V} {test : A → A → Bool} → TellsSeen view test → TellsSeen (map view) (pointwise test)
list_seen {A = A} {V = V} {view = view} {test = test} told = λ xs ys. (to xs ys, from xs ys)
  where
    to : (xs ys : List A) → pointwise test xs ys ≡ true → map view xs ≡ map view ys
    to [] [] e = refl
    to (x ∷ xs) (y ∷ ys) e =
        let p = both _ _ e in
        let first = (told x y).0 p.0 in
        let rest = to xs ys p.1 in
        λ i. first i ∷ rest i
    to _ _ e = absurd (true≢false (sym e))

    from : (xs ys : List A) → map view xs ≡ map view ys → pointwise test xs ys ≡ true
    from [] [] p = refl
    from (x ∷ xs) (y ∷ ys) p =
        let first : view x ≡ view y = cc in
        let rest : map view xs ≡ map view ys = cc in
        and-true _ _ ((told x y).1 first) (from xs ys rest)
    from [] (y ∷ ys) p = cc
    from (x ∷ xs) [] p = cc

-- a text is seen as its bytes
abbrev pub same_strings : String Global → String Global → Bool
same_strings a b = bytes_eq (string_bytes a) (string_bytes b)

pub strings_told : TellsSeen string_bytes same_strings
strings_told a b = bytes_eq-Decides (string_bytes a) (string_bytes b)

-- where a test tells equal values, so does that of values that may be missing, and that of lists
pub option_told : {A : Type 0} {test : A → A → Bool} → TellsEqual test → TellsEqual (option_eq test)
option_told told = decides (options_find (finds told))

pub list_told : {A : Type 0} {test : A → A → Bool} → TellsEqual test → TellsEqual (pointwise test)
list_told told = pointwise_decides told

-- that a number isn't 0 has one proof
pub spacings_equal : (a b : NonZeroI16) → a.value ≡ b.value → a ≡ b
spacings_equal a b same = λ i. record { value = same i; ok = is_prop→PathP (λ j. 0 < unsigned_abs (same j)) (λ j. le_prop) a.ok b.ok i }

pub spacings_told : TellsEqual (spacing_eq.ghosts).eq
spacings_told a b =
    let told = signed_Decides a.value b.value in (
      λ e. spacings_equal a b (told.0 e),
      λ e. told.1 (ap (λ n. n.value) e),
    )
