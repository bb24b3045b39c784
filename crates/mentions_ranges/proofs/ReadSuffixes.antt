-- The law for ranges of suffixes.
use Rattle.std.proofs.Common.{◌≡◌, ℕ, ◌+◌, Bool, true, false, not, ◌&&◌, Option, None, Some, List, refl, ap, sym, ◌∙◌, true≢false}
use Rattle.std.specs.Prelude.{if◌then◌else◌, is_some, nat_eq, option_map, slice_get}
use Rattle.std.specs.Cmp.{unsigned_Decides}
use Rattle.std.specs.Option.{is_none, option_eq, option_map_or}
use Rattle.std.proofs.lemmas.Bool.{and_parts, not-true}
use Rattle.mentions_ranges.specs.Stretches.{is_later}
use Rattle.mentions_ranges.specs.SuffixStretches.{are_next, are_of_one_class, fits, in_stretch, is_alike, is_alone, joins, suffix_stretches, suffixes_rise}
use Rattle.mentions_ranges.specs.declared.collapsed.Delimiter.{Delimiter}
use Rattle.mentions_ranges.specs.declared.suffixes.Suffix.{Suffix}
use Rattle.mentions_ranges.specs.declared.suffixes.SuffixedCite.{SuffixedCite}
use Rattle.mentions_ranges.proofs.Suffixed.{joins-sound, rise-sound}
use Rattle.list_lemmas.proofs.Tests.{clash}
use Rattle.mentions_ranges.specs.ReadBack.{SuffixRangesCanBeReadBack, WasHid, holds_at}
use Rattle.mentions_ranges.proofs.Law.{AreCounted, HidesInner, hides-inner, law}
use Rattle.mentions_ranges.proofs.Placed.{at-number}

second : (a b c d e f : Bool) → a && b && c && d && e && f ≡ true → b ≡ true
second false b c d e f h = absurd (true≢false (sym h))
second true false c d e f h = absurd (true≢false (sym h))
second true true c d e f h = refl

-- a cite that may be in a stretch isn't hidden by its caller
shown : (c : SuffixedCite) → fits c ≡ true → c.hidden ≡ false
shown c h = not-true _ (second c.has_date (not c.hidden) (not c.has_locator) (is_some c.text) (is_some c.suffix) (not (is_alone c.apart)) h)

record IsNextOf (s t : Option Suffix) : Type 0 where
  here : ℕ
  is_here : option_map (λ s. s.number) s ≡ Some here
  is_next : option_map (λ s. s.number) t ≡ Some (here + 1)
  same_class : option_map (λ s. s.class) t ≡ option_map (λ s. s.class) s

next-suffix : (s t : Option Suffix) → are_of_one_class s t ≡ true → are_next s t ≡ true → IsNextOf s t
next-suffix None t g h = absurd (true≢false (sym h))
next-suffix (Some s) None g h = absurd (true≢false (sym h))
next-suffix (Some s) (Some t) g h = record {
  here = s.number;
  is_here = refl;
  is_next = ap Some ((unsigned_Decides t.number (s.number + 1)).0 h);
  same_class = ap Some (sym ((unsigned_Decides s.class t.class).0 g));
}

one-class : (c d : SuffixedCite) → joins c d ≡ true → are_of_one_class c.suffix d.suffix ≡ true
one-class c d h =
    let alike = (and_parts (fits c && fits d && is_none d.apart) (is_alike c d) h).1 in
    let differ = not (nat_eq c.entry d.entry) in
    let same = are_of_one_class c.suffix d.suffix in
    let text = option_eq nat_eq c.text d.text in
    let p = (and_parts (differ && same && text) (option_eq nat_eq c.names d.names) alike).0 in
    (and_parts differ same (and_parts (differ && same) text p).0).1

counted : (c d : SuffixedCite) → suffixes_rise c d ≡ true → AreCounted (λ c. c.hidden) (λ c. option_map (λ s. s.class) c.suffix) (λ c. option_map (λ s. s.number) c.suffix) c d
counted c d h =
    let p = and_parts (joins c d) (are_next c.suffix d.suffix) h in
    let fit = joins-sound c d p.0 in
    let n = next-suffix c.suffix d.suffix (one-class c d p.0) p.1 in
    record { shown = shown c fit.0; next_shown = shown d fit.1; same_class = n.same_class; here = n.here; is_here = n.is_here; is_next = n.is_next }

module _ (cites : List SuffixedCite) where
  hides : HidesInner fits suffixes_rise cites (suffix_stretches true cites)
  hides =
      hides-inner fits suffixes_rise cites (suffix_stretches true cites) rise-sound (λ k c. in_stretch true cites k) (at-number (in_stretch true cites) cites) (λ k c. refl)
      (λ k c e. ap (λ b. if true && b then Delimiter.Dash else if is_later fits joins cites k then Delimiter.YearSuffix else Delimiter.Usual) e)

  -- nothing is inside a range where none is asked for
  none-inner : (k : ℕ) → holds_at (λ c. c.is_inner) (suffix_stretches false cites) k ≡ false
  none-inner k = ap (λ o. option_map_or (λ c. c.is_inner) o false) (at-number (in_stretch false cites) cites k) ∙ by (slice_get cites k)
    where
      by : (o : Option SuffixedCite) → option_map_or (λ c. c.is_inner) (option_map (λ c. in_stretch false cites k) o) false ≡ false
      by None = refl
      by (Some c) = refl

  none-hid : (k : ℕ) → WasHid cites (suffix_stretches false cites) (λ c. c.hidden) k → ⊥
  none-hid k h = clash _ h.1 (none-inner k)

pub suffixes-read-back : (ranges : Bool) (cites : List SuffixedCite) → SuffixRangesCanBeReadBack ranges cites
suffixes-read-back true cites = record {
  only_ranges_hide = λ k h. refl;
  ranges_can_be_read_back = law fits suffixes_rise cites (suffix_stretches true cites) (λ c. c.hidden) (λ c. option_map (λ s. s.class) c.suffix) (λ c. option_map (λ s. s.number) c.suffix)
      rise-sound (hides cites) (λ k c d at behind h. counted c d h);
}
suffixes-read-back false cites = record {
  only_ranges_hide = λ k h. absurd (none-hid cites k h);
  ranges_can_be_read_back = record {
    hidden_between_shown = λ k h. absurd (none-hid cites k h);
    hidden_can_be_read_back = λ p q k next u v h. absurd (none-hid cites k h);
  };
}
