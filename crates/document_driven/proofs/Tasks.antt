-- The tasks of an array, one after the other.
use Rattle.std.proofs.Common.{◌≡◌, ◌<◌, ◌≤◌, ◌+◌, ℕ, List, ◌∷◌, [], ◌++◌, Bool, true, map, length, get_or, drop, ap, sym, ◌∙◌, append_assoc}
use Rattle.std.proofs.lemmas.List.{drop_more, at_drop_all}
use Rattle.serde_json.specs.View.{items_of}
use Rattle.serde_json.specs.Written.{comma_if, compact_text, items_text}
use Rattle.host_memo.specs.declared.key.TaskKey.{TaskKey}
use Rattle.document_tasks.specs.TaskData.{task_data}

-- the text of those that are left
abbrev pub rest_text : Bool → List TaskKey → List ℕ
rest_text later xs = items_text later (items_of (map task_data xs))

pub rest_text-step : (later : Bool) (xs : List TaskKey) (k : ℕ) (x : TaskKey) (out : List ℕ) → k < length xs → x ≡ get_or xs k x
    → ((out ++ comma_if later) ++ compact_text (task_data x)) ++ rest_text true (drop (k + 1) xs) ≡ out ++ rest_text later (drop k xs)
rest_text-step later xs k x out inside is =
    append_assoc (out ++ comma_if later) (compact_text (task_data x)) _
    ∙ append_assoc out (comma_if later) _
    ∙ ap (λ y. out ++ (comma_if later ++ (compact_text (task_data y) ++ rest_text true (drop (k + 1) xs)))) is
    ∙ ap (λ ys. out ++ rest_text later ys) (sym (drop_more xs k x inside))

pub rest_text-end : (later : Bool) (xs : List TaskKey) (k : ℕ) → length xs ≤ k → rest_text later (drop k xs) ≡ 93 ∷ []
rest_text-end later xs k all = at_drop_all (rest_text later) xs k all
