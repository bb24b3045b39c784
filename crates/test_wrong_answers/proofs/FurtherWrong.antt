-- What collapses otherwise, and blocks that stand otherwise, are refused.
use Rattle.std.proofs.Common.{◌≡◌, ℕ, zero, suc, ◌<◌, List, [], ◌∷◌, Some, None, map, refl, ap, sym, ◌∙◌, true≢false, arith}
use Rattle.std.specs.Prelude.{AllPairs, codes, option_and_then, slice_get, slice_index}
use Rattle.std.specs.Option.{option_map_or}
use Rattle.rounds_grouping.specs.NumberLaws.{WasHid, override_at}
use Rattle.rounds_grouping.specs.Stretches.{after_collapse}
use Rattle.rounds_grouping.specs.Laws.{bare}
use Rattle.value_trees.specs.Child.{Child, text}
use Rattle.value_trees.specs.declared.elem.Elem.{Elem}
use Rattle.rounds_laws.specs.BlockLaws.{NextIsOfBlock, FormBlocks, block_places}
use Rattle.rounds_laws.specs.CollapseLaws.{FollowsOwn, NumbersCollapse, YearsCollapse, cut_by, verdict_at}
use Rattle.test_wrong_answers.proofs.Differ.{below}
use Rattle.test_wrong_answers.specs.Further.{after, apart, backwards, both_cut, by_year, dashed_apart, in_a_row, of_one_block, run_together}
use Rattle.test_wrong_answers.specs.Orders.{as_cited, names_of_a, names_of_b}
use Rattle.test_wrong_answers.specs.Samples.{request_of, words}

-- of 1 and 5 none is hidden
none-hid : (k : ℕ) → ¬ WasHid apart dashed_apart k
none-hid zero h = true≢false (sym h.1)
none-hid (suc zero) h = true≢false (sym h.1)
none-hid (suc (suc k)) h = true≢false (sym h.1)

pub no-dash : ¬ NumbersCollapse apart dashed_apart after
no-dash h =
    let override : override_at dashed_apart 1 ≡ override_at apart 1 = h.else_stays 1 (λ e. none-hid e.before e.hid) (λ f. none-hid f.after_range.before f.after_range.hid) in
    cc

pub not-drawn : ¬ NumbersCollapse in_a_row in_a_row after
not-drawn h =
    true≢false (sym (h.middle_hides 1 (record {
      before = 0;
      directly = refl;
      in_a_row = record { number = 1; first = refl; second = refl; third = refl };
    })))

-- the first cite follows none
first-own : ¬ FollowsOwn of_one_block 0
first-own h = let e = h.directly in absurd (omega (arith, e))

pub not-alone : ¬ YearsCollapse of_one_block both_cut (cut_by by_year) (after_collapse by_year)
not-alone h =
    let same = h.else_stays 0 first-own (λ b. let e = b.directly in absurd (omega (arith, e))) in
    let verdict : verdict_at both_cut 0 ≡ verdict_at of_one_block 0 = ap (λ o. option_map_or (λ c. c.verdict) o None) same in
    cc

-- the place of the first cite by A is 0
entry_at : ℕ → ℕ
entry_at k = option_map_or (λ c. c.entry.number) (slice_get (map bare as_cited) k) 9

first-place : (k : ℕ) → 0 ≡ entry_at k → k ≡ 0
unfolding entry_at
first-place zero e = refl
first-place (suc zero) e = absurd (below 0 1 (omega arith) e)
first-place (suc (suc zero)) e = absurd (below 0 2 (omega arith) e)
first-place (suc (suc (suc zero))) e = absurd (below 0 3 (omega arith) e)
first-place (suc (suc (suc (suc zero)))) e = absurd (below 0 4 (omega arith) e)
first-place (suc (suc (suc (suc (suc k))))) e = absurd (below 0 9 (omega arith) e)

-- so what stands before it has no smaller one
not-rising : (order : List ℕ) → map (λ c. Some (bare c)) backwards ≡ map (λ k. slice_get (map bare as_cited) k) order → AllPairs (λ p q. p < q) (block_places order backwards) → ⊥
unfolding entry_at
not-rising [] e rise = cc
not-rising (p ∷ []) e rise = cc
not-rising (p ∷ q ∷ []) e rise = cc
not-rising (p ∷ q ∷ r ∷ order) e rise =
    let third : 0 ≡ entry_at r = ap (λ l. option_map_or (λ o. option_map_or (λ c. c.entry.number) o 9) (slice_get l 2) 9) e in
    let least : r ≡ 0 = first-place r third in
    let up : p < r = rise 0 1 0 (omega arith) (omega arith) in
    absurd (omega (arith, least, up))

pub not-backwards : ¬ FormBlocks (request_of as_cited) (request_of backwards)
not-backwards h = not-rising h.final.final_order h.final.cites_in_this_order (h.blocks refl).in_order

-- the first byte of names
first_byte : Child → ℕ
first_byte (text f) = slice_index f.text 0
first_byte _ = 0

-- B isn't A
not-of-a : ¬ NextIsOfBlock run_together 2
unfolding first_byte
not-of-a h =
    let one : Some names_of_a ≡ Some names_of_b = h.here ∙ sym h.next in
    let letters : Some (words (codes "A")) ≡ Some (words (codes "B")) = ap (λ o. option_and_then (λ (n : Elem). slice_get n.children 0) o) one in
    below 65 66 (omega arith) (ap (λ o. option_map_or first_byte o 0) letters)

pub not-run-together : ¬ FormBlocks (request_of as_cited) (request_of run_together)
not-run-together h = let begins : override_at run_together 3 ≡ None = (h.blocks refl).other_begins 2 not-of-a in cc
