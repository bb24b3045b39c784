-- Runs of citation numbers, and what collapsing them makes of each cite.
use Rattle.std.specs.Prelude.{ℕ, ◌+◌, ◌-◌, Bool, not, ◌&&◌, ◌||◌, List, Option, None, Some, is_some, if◌then◌else◌, length, map, nat_eq, nat_le, nat_lt, encode_utf8, option_map, slice_index_or}
use Rattle.std.specs.List.{list_all, list_any}
use Rattle.std.specs.Option.{option_eq}
use Rattle.list_lemmas.specs.Places.{places, is_maximal}
use Rattle.value_trees.specs.Metas.{has_meta}
use Rattle.value_trees.specs.Tree.{find_elem}
use Rattle.value_trees.specs.declared.elem.ElemMeta.TheVariants.{CitationNumber}
use Rattle.driver_passes.specs.Renders.{ItemRender}

-- U+2013 as text
abbrev pub en_dash : List ℕ
en_dash = encode_utf8 0x2013

-- the number of a cite that isn't hidden and in whose tree a citation number stands
abbrev pub shown_number : {E P : Type 0} → ItemRender E P → Option ℕ
shown_number c = if not c.hidden && is_some (find_elem (has_meta CitationNumber) c.rendered)
    then Some c.properties.speculative.citation_number else None

-- of the numbers that the cites of a request show
module _ (numbers : List (Option ℕ)) where
  -- that of the cite at k; none behind the last
  abbrev pub number_at : ℕ → Option ℕ
  number_at k = slice_index_or numbers k None

  -- the cites from a to b show numbers, which rise by one from each to the next
  abbrev pub rises : ℕ → ℕ → Bool
  rises a b =
      nat_le a b && list_all (λ k. is_some (number_at k)) (places a (b + 1))
      && list_all (λ k. option_eq nat_eq (number_at (k + 1))
      (option_map (λ n. n + 1) (number_at k)))
      (places a b)

  abbrev pub is_run : ℕ → ℕ → Bool
  is_run = is_maximal rises

  -- a run begins before k and ends behind it
  abbrev pub is_inner : ℕ → Bool
  is_inner k = list_any (λ a. list_any (λ b. is_run a b) (places (k + 1) (length numbers)))
      (places 0 k)

  -- a run with an inner cite ends at k
  abbrev pub ends_collapsed : ℕ → Bool
  ends_collapsed k = list_any (λ a. is_run a k) (places 0 (k - 1))

  -- a run begins at k, and one with an inner cite ends right before it
  abbrev pub follows_collapsed : ℕ → Bool
  follows_collapsed k = nat_lt 0 k && ends_collapsed (k - 1)
      && list_any (λ b. is_run k b) (places k (length numbers))

-- the cite at k of these: hidden inside a run, behind a dash at its end, and behind the given
-- delimiter where it follows it
abbrev pub number_collapsed : {E P : Type 0} → Option (List ℕ) → List (ItemRender E P) → ℕ
    → ItemRender E P
    → ItemRender E P
number_collapsed after cites k c =
    let numbers = map shown_number cites in
    record c {
      hidden = c.hidden || is_inner numbers k;
      delimiter_override = if ends_collapsed numbers k then Some en_dash
          else if follows_collapsed numbers k
          then after else c.delimiter_override;
    }
