-- Stretches of suffixes by neighbours.
use Rattle.std.proofs.Common.{◌≡◌, ℕ, ◌+◌, Bool, true, false, not, ◌&&◌, List, [], ◌∷◌, ◌++◌, cond, map, refl, ap, sym, ◌∙◌}
use Rattle.std.specs.List.{range_with_len}
use Rattle.std.specs.Option.{is_none}
use Rattle.std.proofs.lemmas.List.{map-append}
use Rattle.std.proofs.lemmas.Bool.{and_parts}
use Rattle.list_lemmas.proofs.Members.{below-more}
use Rattle.mentions_ranges.specs.Links.{ends_long as ends_around, moved, suffix_made}
use Rattle.mentions_ranges.specs.Stretches.{ends_long, is_inner, is_later, linked_at}
use Rattle.mentions_ranges.specs.SuffixStretches.{are_next, fits, in_stretch, is_alike, joins, suffixes_rise}
use Rattle.mentions_ranges.specs.declared.around.Around.{Around}
use Rattle.mentions_ranges.specs.declared.collapsed.CollapsedCite.{CollapsedCite}
use Rattle.mentions_ranges.specs.declared.collapsed.Delimiter.{Delimiter}
use Rattle.mentions_ranges.specs.declared.suffixes.SuffixedCite.{SuffixedCite}
use Rattle.mentions_ranges.proofs.Linked.{IsAt, IsSound, IsUpTo, ends, inner, later-next, moved-here, on-to-next}

pub joins-sound : IsSound fits joins
joins-sound c d h =
    let p = and_parts (fits c && fits d && is_none d.apart) (is_alike c d) h in
    let q = and_parts (fits c && fits d) (is_none d.apart) p.0 in
    and_parts (fits c) (fits d) q.0

pub rise-sound : IsSound fits suffixes_rise
rise-sound c d h = joins-sound c d (and_parts (joins c d) (are_next c.suffix d.suffix) h).0

module _ (ranges : Bool) (cites : List SuffixedCite) (k : ℕ) (a : Around) (is : IsAt fits suffixes_rise cites k a) (later : Bool) (is_one : later ≡ is_later fits joins cites k) where
  pub made-here : suffix_made ranges later a ≡ in_stretch ranges cites k
  made-here =
      let inside : ranges && a.here && a.behind ≡ ranges && is_inner fits suffixes_rise cites k =
      by ranges a.here a.behind ∙ ap (λ b. ranges && b) ((λ j. is.here j && is.behind j) ∙ sym (inner fits suffixes_rise cites rise-sound k)) in
      let over : ends_around a ≡ ends_long fits suffixes_rise cites k =
      (λ i. is.before i && is.here i && not (is.behind i)) ∙ sym (ends fits suffixes_rise cites rise-sound k) in
      λ i. record {
        is_inner = inside i;
        is_cut = is_one i;
        delimiter = cond (ranges && over i) Delimiter.Dash (cond (is_one i) Delimiter.YearSuffix Delimiter.Usual);
      }
    where
      by : (r b c : Bool) → (r && b) && c ≡ r && (b && c)
      by true b c = refl
      by false b c = refl

-- the walk, one more cite
module _ (ranges : Bool) (cites : List SuffixedCite) (k : ℕ) (a b : Around) (rises : Bool) (so_far : IsUpTo fits suffixes_rise cites k a) (is_moved : b ≡ moved a rises)
    (does_rise : rises ≡ linked_at suffixes_rise cites k) where
  pub at-next : IsAt fits suffixes_rise cites k b
  at-next =
      let here = moved-here fits suffixes_rise cites k a rises so_far does_rise in
      record {
        before = ap (λ x. x.before) is_moved ∙ here.before;
        here = ap (λ x. x.here) is_moved ∙ here.here;
        behind = ap (λ x. x.behind) is_moved ∙ here.behind;
      }

  pub around-next : IsUpTo fits suffixes_rise cites (k + 1) b
  around-next = on-to-next fits suffixes_rise cites k b at-next

  pub made-next : (later : Bool) (made all : List CollapsedCite) (c : CollapsedCite) → later ≡ is_later fits joins cites k → made ≡ map (in_stretch ranges cites) (range_with_len 0 k)
      → c ≡ suffix_made ranges later b → all ≡ made ++ c ∷ [] → all ≡ map (in_stretch ranges cites) (range_with_len 0 (k + 1))
  made-next later made all c is_one made_so_far is pushed =
      pushed ∙ (λ i. made_so_far i ++ (is ∙ made-here ranges cites k b at-next later is_one) i ∷ [])
      ∙ sym (ap (map (in_stretch ranges cites)) (below-more k) ∙ map-append (in_stretch ranges cites) (range_with_len 0 k) (k ∷ []))

pub joined-next : (cites : List SuffixedCite) (k : ℕ) (later : Bool) → later ≡ linked_at joins cites k → later ≡ is_later fits joins cites (k + 1)
joined-next cites k later h = later-next fits joins cites joins-sound k later h
