-- The items of an array, one after the other.
use Rattle.std.proofs.Common.{◌≡◌, ◌<◌, ◌≤◌, ◌+◌, ℕ, List, ◌∷◌, [], ◌++◌, Bool, true, map, length, get_or, drop, ap, sym, ◌∙◌, append_assoc}
use Rattle.std.proofs.lemmas.List.{drop_more, at_drop_all}
use Rattle.serde_json.specs.Data.{Data}
use Rattle.serde_json.specs.View.{items_of}
use Rattle.serde_json.specs.Written.{comma_if, compact_text, items_text}

-- the text of those that are left
abbrev pub rest_text : {A : Type 0} → (A → Data) → Bool → List A → List ℕ
rest_text f later xs = items_text later (items_of (map f xs))

pub rest_text-step : {A : Type 0} (f : A → Data) (later : Bool) (xs : List A) (k : ℕ) (x : A) (out : List ℕ) → k < length xs → x ≡ get_or xs k x
    → ((out ++ comma_if later) ++ compact_text (f x)) ++ rest_text f true (drop (k + 1) xs) ≡ out ++ rest_text f later (drop k xs)
rest_text-step f later xs k x out inside is =
    append_assoc (out ++ comma_if later) (compact_text (f x)) _
    ∙ append_assoc out (comma_if later) _
    ∙ ap (λ y. out ++ (comma_if later ++ (compact_text (f y) ++ rest_text f true (drop (k + 1) xs)))) is
    ∙ ap (λ ys. out ++ rest_text f later ys) (sym (drop_more xs k x inside))

pub rest_text-end : {A : Type 0} (f : A → Data) (later : Bool) (xs : List A) (k : ℕ) → length xs ≤ k → rest_text f later (drop k xs) ≡ 93 ∷ []
rest_text-end f later xs k all = at_drop_all (rest_text f later) xs k all
