use Rattle.std.proofs.Common.{◌≡◌, ℕ, suc, ◌+◌, ◌<◌, ◌∙◌, subst, List, [], ◌∷◌, length, refl, sym, ap, map, get_or, Bor, arith}
use Rattle.std.proofs.lemmas.List.{get_or-map}
use Rattle.value_styles.specs.Element.{Name}
use Rattle.value_styles.specs.Calls.{calls_of_all}
use Rattle.value_styles.specs.Ring.{macro_calls}
use Rattle.value_styles.specs.ElementView.{elements_view}
use Rattle.driver_styles.specs.MacrosOf.{macros_of}
use Rattle.driver_styles.proofs.Gathering.{falls}
use Rattle.driver_styles.proofs.Suffixes.{IsGathered, gathered-start, gathered-more, at_once, at_name, at_end}
use Rattle.driver_styles.proofs.suffix_text.suffix_stands.Goals as goal

-- what an index past the end would read
abbrev nowhere : Bor Name
nowhere = record { ref_ptr = (0, 0); now = [] }

name_at : (xs keys : List (Bor Name)) (i : ℕ) → xs ≡ keys → i < length keys → (get_or xs i nowhere).now ≡ get_or (map (λ s. s.now) keys) i (get_or xs i nowhere).now
name_at xs keys i e lt =
    ap (λ ks. (get_or ks i nowhere).now) e ∙ sym (get_or-map (λ (s : Bor Name). s.now) keys i nowhere (get_or xs i nowhere).now lt)

names_len : (xs : List (Bor Name)) → length (map (λ s. s.now) xs) ≡ length xs
names_len [] = refl
names_len (x ∷ xs) = ap (λ n. suc n) (names_len xs)

pub returns-then-have_suffix : goal.returns-then-have_suffix
returns-then-have_suffix c =
    at_once (macros_of c.args.macros.now) c.requires (elements_view c.args.elements.now) (sym c.have_suffix.ensures ∙ c.if-have_suffix.true)

pub loop-at-init : goal.loop-at-init
loop-at-init c =
    rw (c.in_ok-add_called.ensures, c.new-names.ensures) (gathered-start (macros_of c.args.macros.now) c.requires (calls_of_all (elements_view c.args.elements.now)))

pub loop-at-smaller : goal.loop-at-smaller
loop-at-smaller c =
    let l = c.loop-at in
    let ms = macros_of c.args.macros.now in
    let names = map (λ (s : Bor Name). s.now) l.names.keys in
    let n = names_len l.names.keys in
    let h = falls ms (macro_calls ms (get_or c.as_slice.result.now l.at nowhere).now) names l.at (omega (arith, n, c.loop-at-test.true, c.len.ensures)) in
    rw (c.in_ok-found.ensures.gathered c.if-found.false) h

pub loop-at-preserved : goal.loop-at-preserved
loop-at-preserved c =
    let l = c.loop-at in
    let ms = macros_of c.args.macros.now in
    let first = calls_of_all (elements_view c.args.elements.now) in
    let names = map (λ (s : Bor Name). s.now) l.names.keys in
    let n = names_len l.names.keys in
    let next = get_or c.as_slice.result.now l.at nowhere in
    let more = gathered-more ms c.requires first names l.at next.now l.invariant (omega (arith, n, c.loop-at-test.true, c.len.ensures))
    (name_at c.as_slice.result.now l.names.keys l.at c.as_slice.ensures (omega (arith, c.loop-at-test.true, c.len.ensures))) (sym c.in_ok-found.ensures.found ∙ c.if-found.false) in
    subst (λ ns. IsGathered ms first ns (l.at + 1)) (sym (c.in_ok-found.ensures.gathered c.if-found.false)) more

pub returns-then-found : goal.returns-then-found
returns-then-found c =
    let l = c.loop-at in
    let names = map (λ (s : Bor Name). s.now) l.names.keys in
    let n = names_len l.names.keys in
    let next = get_or c.as_slice.result.now l.at nowhere in
    at_name (macros_of c.args.macros.now) c.requires (elements_view c.args.elements.now) names l.at next.now l.invariant (omega (arith, n, c.loop-at-test.true, c.len.ensures))
    (name_at c.as_slice.result.now l.names.keys l.at c.as_slice.ensures (omega (arith, c.loop-at-test.true, c.len.ensures))) (sym c.in_ok-found.ensures.found ∙ c.if-found.true)

pub returns : goal.returns
returns c =
    let l = c.loop-at in
    let n = names_len l.names.keys in
    at_end (macros_of c.args.macros.now) c.requires (elements_view c.args.elements.now) (map (λ (s : Bor Name). s.now) l.names.keys) l.at l.invariant (omega (arith, n, c.loop-at-test.false, c.len.ensures))
    (sym c.have_suffix.ensures ∙ c.if-have_suffix.false)
