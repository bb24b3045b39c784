-- A table that takes the first of each task has what a search of the list finds.
use Rattle.std.proofs.Common.{◌≡◌, ◌&&◌, Bool, true, false, cond, List, [], ◌∷◌, ◌++◌, Option, Some, None, option_and_then, refl, sym, ap, ◌∙◌, append_assoc}
use Rattle.std.specs.Prelude.{option_map, is_some}
use Rattle.std.specs.Cmp.{IsEquivalence}
use Rattle.std.specs.List.{list_all, list_any}
use Rattle.std.specs.Map.{lookup}
use Rattle.std.proofs.lemmas.Bool.{and_from}
use Rattle.document_requests.proofs.FirstKeyed.{first_of_none}
use Rattle.value_trees.specs.SameTree.{same_trees-Decides}
use Rattle.ordered_map.specs.Entries.{Entries, keys_of, with_entry}
use Rattle.host_memo.specs.Written.{found, key_eq}
use Rattle.host_memo.proofs.Growing.{has_key}
use Rattle.host_memo.specs.contracts.key.TaskKeyEq.TheImpl.Laws.{laws-law}
use Rattle.host_memo.specs.declared.key.TaskKey.{TaskKey}
use Rattle.driver_writers.specs.declared.cite.Cite.{Cite}
use Rattle.document_values.specs.Words.{first_of}
use Rattle.document_tasks.specs.WrittenForm.{Written, first_written, has_tree, has_one_tree_each, table_of_written, with_first_tree}

pub key_laws : IsEquivalence key_eq
key_laws = laws-law

-- ---- what is found

first-append : (xs ys : Written) (k : TaskKey) → first_written (xs ++ ys) k ≡ first_of (first_written xs k) (first_written ys k)
first-append [] ys k = refl
first-append (x ∷ xs) ys k = by (key_eq k x.0) (first-append xs ys k)
  where
    by : (b : Bool) → first_written (xs ++ ys) k ≡ first_of (first_written xs k) (first_written ys k)
        → cond b (Some x.1) (first_written (xs ++ ys) k) ≡ first_of (cond b (Some x.1) (first_written xs k)) (first_written ys k)
    by true h = refl
    by false h = h

pub one_more_found : (ws : Written) (w : TaskKey × Cite) → with_first_tree w (first_written ws) ≡ first_written (ws ++ w ∷ [])
one_more_found ws w = λ i k. sym (first-append ws (w ∷ []) k) i

-- ---- what a map finds

same_test : (k l : TaskKey) (es : List (TaskKey × Cite)) → key_eq k l ≡ true → lookup (key_eq k) es ≡ lookup (key_eq l) es
same_test k l [] e = refl
same_test k l (x ∷ es) e = λ i. cond (key_laws.congr k l x.0 e i) (Some x.1) (same_test k l es e i)

stays : (o : Option Cite) (c : Cite) → is_some o ≡ true → o ≡ first_of o (Some c)
stays None c h = cc
stays (Some x) c h = refl

-- what stands for the key stays
kept : (m : Entries TaskKey Cite) (w : TaskKey × Cite) → is_some (found m w.0) ≡ true → found m ≡ with_first_tree w (found m)
kept m w there = λ i k. at k (key_eq k w.0) refl i
  where
    at : (k : TaskKey) (b : Bool) → key_eq k w.0 ≡ b → found m k ≡ first_of (found m k) (cond b (Some w.1) None)
    at k true e = stays (found m k) w.1 (ap is_some (same_test k w.0 m.entries e) ∙ there)
    at k false e = sym (first_of_none (found m k))

lookup-append : (k : TaskKey) (xs ys : List (TaskKey × Cite)) → lookup (key_eq k) (xs ++ ys) ≡ first_of (lookup (key_eq k) xs) (lookup (key_eq k) ys)
lookup-append k [] ys = refl
lookup-append k (x ∷ xs) ys = by (key_eq k x.0) (lookup-append k xs ys)
  where
    by : (b : Bool) → lookup (key_eq k) (xs ++ ys) ≡ first_of (lookup (key_eq k) xs) (lookup (key_eq k) ys)
        → cond b (Some x.1) (lookup (key_eq k) (xs ++ ys)) ≡ first_of (cond b (Some x.1) (lookup (key_eq k) xs)) (lookup (key_eq k) ys)
    by true h = refl
    by false h = h

-- a key that wasn't there is put in
pub added : (m n : Entries TaskKey Cite) (w : TaskKey × Cite) → n.entries ≡ with_entry key_eq m.entries w.0 w.1 → found n ≡ with_first_tree w (found m)
added m n w put = ap (λ es k. lookup (key_eq k) es) put ∙ by (list_any (key_eq w.0) (keys_of m.entries)) refl
  where
    by : (b : Bool) → list_any (key_eq w.0) (keys_of m.entries) ≡ b → (λ k. lookup (key_eq k) (cond b m.entries (m.entries ++ w ∷ []))) ≡ with_first_tree w (found m)
    by true among = kept m w (has_key m w.0 ∙ among)
    by false among = λ i k. lookup-append k m.entries (w ∷ []) i

-- ---- one tree for each task

abbrev among : Written → TaskKey × Cite → Bool
among ws w = has_tree (first_written ws w.0) w.1 false

left : (a b : Bool) → a && b ≡ true → a ≡ true
left true b e = refl
left false b e = cc

right : (a b : Bool) → a && b ≡ true → b ≡ true
right true b e = e
right false b e = cc

all-append : {X : Type 0} (p : X → Bool) (xs ys : List X) → list_all p xs ≡ true → list_all p ys ≡ true → list_all p (xs ++ ys) ≡ true
all-append p [] ys h g = g
all-append p (x ∷ xs) ys h g = and_from (p x) (list_all p (xs ++ ys)) (left (p x) (list_all p xs) h) (all-append p xs ys (right (p x) (list_all p xs) h) g)

all_of : {X : Type 0} (p q : X → Bool) (xs : List X) → ((x : X) → p x ≡ true → q x ≡ true) → list_all p xs ≡ true → list_all q xs ≡ true
all_of p q [] f h = refl
all_of p q (x ∷ xs) f h = and_from (q x) (list_all q xs) (f x (left (p x) (list_all p xs) h)) (all_of p q xs f (right (p x) (list_all p xs) h))

not_all : {X : Type 0} (p : X → Bool) (xs : List X) (x : X) (ys : List X) → p x ≡ false → list_all p (xs ++ x ∷ ys) ≡ false
not_all p [] x ys h = rw h refl
not_all p (z ∷ xs) x ys h = by (p z) (not_all p xs x ys h)
  where
    by : (b : Bool) → list_all p (xs ++ x ∷ ys) ≡ false → b && list_all p (xs ++ x ∷ ys) ≡ false
    by true g = g
    by false g = refl

-- what was written before stands first
later : (o r : Option Cite) (c : Cite) → has_tree o c false ≡ true → has_tree (first_of o r) c false ≡ true
later None r c h = cc
later (Some x) r c h = h

last : (o : Option Cite) (c : Cite) → has_tree o c true ≡ true → has_tree (first_of o (Some c)) c false ≡ true
last None c h = (same_trees-Decides c.children c.children).1 refl
last (Some x) c h = h

pub one_more : (ws : Written) (w : TaskKey × Cite) → has_one_tree_each ws ≡ true → has_tree (first_written ws w.0) w.1 true ≡ true → has_one_tree_each (ws ++ w ∷ []) ≡ true
one_more ws w h g =
    let whole = ws ++ w ∷ [] in
    let own : first_written (w ∷ []) w.0 ≡ Some w.1 = ap (λ b. cond b (Some w.1) None) (key_laws.refl w.0) in
    let here : first_written whole w.0 ≡ first_of (first_written ws w.0) (Some w.1) = first-append ws (w ∷ []) w.0 ∙ ap (first_of (first_written ws w.0)) own in
    all-append (among whole) ws (w ∷ [])
    (all_of (among ws) (among whole) ws
    (λ v e. ap (λ o. has_tree o v.1 false) (first-append ws (w ∷ []) v.0) ∙ later (first_written ws v.0) (first_written (w ∷ []) v.0) v.1 e) h)
    (and_from (among whole w) true (ap (λ o. has_tree o w.1 false) here ∙ last (first_written ws w.0) w.1 g) refl)

clash : (o r : Option Cite) (c : Cite) → has_tree o c true ≡ false → has_tree (first_of o r) c false ≡ false
clash None r c h = cc
clash (Some x) r c h = h

-- the next has another tree: nothing is read, whatever follows
pub two_trees : (ws : Written) (w : TaskKey × Cite) (rest whole : Option Written) → has_tree (first_written ws w.0) w.1 true ≡ false
    → option_map (λ later. (ws ++ w ∷ []) ++ later) rest ≡ whole → option_and_then table_of_written whole ≡ None
two_trees ws w None whole h e = ap (option_and_then table_of_written) (sym e)
two_trees ws w (Some vs) whole h e =
    let all = ws ++ w ∷ vs in
    let joined : (ws ++ w ∷ []) ++ vs ≡ all = append_assoc ws (w ∷ []) vs in
    let bad : among all w ≡ false = ap (λ o. has_tree o w.1 false) (first-append ws (w ∷ vs) w.0) ∙ clash (first_written ws w.0) (first_written (w ∷ vs) w.0) w.1 h in
    ap (option_and_then table_of_written) (sym e) ∙ ap table_of_written joined ∙ ap (λ b. cond b (Some (first_written all)) None) (not_all (among all) ws w vs bad)

pub all_read : (ws : Written) (whole : Option Written) → has_one_tree_each ws ≡ true → whole ≡ Some ws → option_and_then table_of_written whole ≡ Some (first_written ws)
all_read ws whole h e = ap (option_and_then table_of_written) e ∙ ap (λ b. cond b (Some (first_written ws)) None) h
