-- The equations of `greatest_of`, and what an open element's place in its list changes.
use Rattle.std.proofs.Common.{◌≡◌, ℕ, ◌+◌, ◌≤◌, max, List, [], ◌∷◌, ◌++◌, map, length, length-append, refl, arith, rules, cond, Bool, true, false}
use Rattle.std.proofs.lemmas.List.{map-append}
use Rattle.std.specs.Prelude.{String}
use Rattle.std.specs.declared.alloc.Global.{Global}
use Rattle.style_xml.specs.declared.limits.TheConstants.{MAX_DEPTH}
use Rattle.style_xml.specs.declared.tree.Element.{Element}
use Rattle.style_xml.specs.declared.tree.Content.{Content}
use Rattle.style_xml.specs.declared.tree.Content.TheVariants as part
use Rattle.style_xml.specs.declared.tree.Content.TheFolds.{fold-roll-Content, fold_out-Element}
use Rattle.style_xml.specs.Trees.{Own, most, part_step, element_step, greatest_of, greatest_of_part, greatest_of_open, one, attribute_count, offset_end, AreWithinLimits, IsWithinLimits, IsStart}

pub greatest_of-out : (own : Own) (more : ℕ) (e : Element) → greatest_of own more e ≡ max (own e.attributes e.offset) (more + most (map (greatest_of_part own more) e.content.items))
greatest_of-out own more e = let k = fold_out-Element ℕ ℕ part_step (element_step own more) e in search rules

pub greatest_of_part-element : (own : Own) (more : ℕ) (e : Element) → greatest_of_part own more (part.Element e) ≡ greatest_of own more e
greatest_of_part-element own more e = let a = part.rolls-Element e in let b = fold-roll-Content in search rules

pub greatest_of_part-text : (own : Own) (more : ℕ) (t : String Global) → greatest_of_part own more (part.Text t) ≡ 0
greatest_of_part-text own more t = let a = part.rolls-Text t in let b = fold-roll-Content in search rules

pub most-push : (ns : List ℕ) (n : ℕ) → most (ns ++ n ∷ []) ≡ max (most ns) n
most-push [] n = omega arith
most-push (m ∷ ns) n = omega (arith, most-push ns n)

pub most_map-push : {A : Type 0} (f : A → ℕ) (xs : List A) (x : A) → most (map f (xs ++ x ∷ [])) ≡ max (most (map f xs)) (f x)
most_map-push f xs x = rw (map-append, most-push)

-- an element that gets one more part
pub greatest_of-push : (own : Own) (more : ℕ) (e f : Element) (p : Content) → f.attributes ≡ e.attributes → f.offset ≡ e.offset → f.content.items ≡ e.content.items ++ p ∷ [] → greatest_of own more f ≡ max (greatest_of own more e) (more + greatest_of_part own more p)
greatest_of-push own more e f p attributes offset items =
    let same : own f.attributes f.offset ≡ own e.attributes e.offset = cc in
    let parts : most (map (greatest_of_part own more) f.content.items) ≡ max (most (map (greatest_of_part own more) e.content.items)) (greatest_of_part own more p) =
    rw (items, map-append, most-push) in
    omega (arith, greatest_of-out own more e, greatest_of-out own more f, same, parts)

-- what is added for the elements around one behind these
abbrev raised : ℕ → ℕ → List Element → ℕ
raised more above [] = above
raised more above (e ∷ es) = raised more (above + more) es

raised-push : (more above : ℕ) (es : List Element) (e : Element) → raised more above (es ++ e ∷ []) ≡ raised more above es + more
raised-push more above [] e = refl
raised-push more above (x ∷ es) e = raised-push more (above + more) es e

raised-one : (above : ℕ) (es : List Element) → raised 1 above es ≡ above + length es
raised-one above [] = omega arith
raised-one above (x ∷ es) = omega (arith, raised-one (above + 1) es)

greatest_of_open-push : (own : Own) (more above : ℕ) (es : List Element) (e : Element) → greatest_of_open own more above (es ++ e ∷ []) ≡ max (greatest_of_open own more above es) (raised more above es + greatest_of own more e)
greatest_of_open-push own more above [] e = omega arith
greatest_of_open-push own more above (x ∷ es) e = omega (arith, greatest_of_open-push own more (above + more) es e)

one_deep : (e : Element) → 1 ≤ greatest_of one 1 e
one_deep e = omega (arith, greatest_of-out one 1 e)

greatest_of-start : (own : Own) (more : ℕ) (e : Element) → e.content.items ≡ [] → greatest_of own more e ≡ max (own e.attributes e.offset) more
greatest_of-start own more e empty =
    let none : most (map (greatest_of_part own more) e.content.items) ≡ 0 = rw empty in
    omega (arith, greatest_of-out own more e, none)

-- the last of the open elements gets a text
pub within-text : (end : ℕ) (es : List Element) (e f : Element) → ((own : Own) (more : ℕ) → greatest_of own more f ≤ max (greatest_of own more e) more) → AreWithinLimits end (es ++ e ∷ []) → AreWithinLimits end (es ++ f ∷ [])
within-text end es e f grows w = record {
  depth = omega (arith, greatest_of_open-push one 1 0 es e, greatest_of_open-push one 1 0 es f, grows one 1, one_deep e, w.depth);
  attributes = omega (arith, greatest_of_open-push attribute_count 0 0 es e, greatest_of_open-push attribute_count 0 0 es f, grows attribute_count 0, w.attributes);
  offsets = omega (arith, greatest_of_open-push offset_end 0 0 es e, greatest_of_open-push offset_end 0 0 es f, grows offset_end 0, w.offsets);
}

-- the last of the open elements is left, and the one around it gets it
pub within-left : (end : ℕ) (es : List Element) (outer e f : Element) → ((own : Own) (more : ℕ) → greatest_of own more f ≤ max (greatest_of own more outer) (more + greatest_of own more e)) → AreWithinLimits end ((es ++ outer ∷ []) ++ e ∷ []) → AreWithinLimits end (es ++ f ∷ [])
within-left end es outer e f grows w = record {
  depth = omega (arith, greatest_of_open-push one 1 0 (es ++ outer ∷ []) e, greatest_of_open-push one 1 0 es outer, greatest_of_open-push one 1 0 es f, raised-push 1 0 es outer, grows one 1, w.depth);
  attributes = omega (arith, greatest_of_open-push attribute_count 0 0 (es ++ outer ∷ []) e, greatest_of_open-push attribute_count 0 0 es outer, greatest_of_open-push attribute_count 0 0 es f, raised-push 0 0 es outer, grows attribute_count 0, w.attributes);
  offsets = omega (arith, greatest_of_open-push offset_end 0 0 (es ++ outer ∷ []) e, greatest_of_open-push offset_end 0 0 es outer, greatest_of_open-push offset_end 0 0 es f, raised-push 0 0 es outer, grows offset_end 0, w.offsets);
}

raised-none : (above : ℕ) (es : List Element) → raised 0 above es ≡ above
raised-none above [] = refl
raised-none above (x ∷ es) = omega (arith, raised-none (above + 0) es)

pub within-front : (end : ℕ) (es : List Element) (e : Element) → AreWithinLimits end (es ++ e ∷ []) → AreWithinLimits end es
within-front end es e w = record {
  depth = omega (arith, greatest_of_open-push one 1 0 es e, w.depth);
  attributes = omega (arith, greatest_of_open-push attribute_count 0 0 es e, w.attributes);
  offsets = omega (arith, greatest_of_open-push offset_end 0 0 es e, w.offsets);
}

pub within-last : (end : ℕ) (es : List Element) (e : Element) → AreWithinLimits end (es ++ e ∷ []) → IsWithinLimits end e
within-last end es e w = record {
  depth = omega (arith, greatest_of_open-push one 1 0 es e, w.depth);
  attributes = omega (arith, greatest_of_open-push attribute_count 0 0 es e, w.attributes);
  offsets = omega (arith, greatest_of_open-push offset_end 0 0 es e, w.offsets);
}

-- one more element is opened
pub within-start : (end : ℕ) (es : List Element) (e : Element) → IsStart end e → length es + 1 ≤ MAX_DEPTH → AreWithinLimits end es → AreWithinLimits end (es ++ e ∷ [])
within-start end es e start few w = record {
  depth = omega (arith, greatest_of_open-push one 1 0 es e, greatest_of-start one 1 e start.empty, raised-one 0 es, few, w.depth);
  attributes = omega (arith, greatest_of_open-push attribute_count 0 0 es e, greatest_of-start attribute_count 0 e start.empty, raised-none 0 es, start.attributes, w.attributes);
  offsets = omega (arith, greatest_of_open-push offset_end 0 0 es e, greatest_of-start offset_end 0 e start.empty, raised-none 0 es, start.offsets, w.offsets);
}

-- the same where the list may not have got the element around it
pub within-entered : (end : ℕ) (b : Bool) (es xs : List Element) (outer e : Element) → xs ≡ cond b (es ++ outer ∷ []) es → IsStart end e → length es + 2 ≤ MAX_DEPTH → AreWithinLimits end (es ++ outer ∷ []) → AreWithinLimits end (xs ++ e ∷ [])
within-entered end true es xs outer e is start few w =
    let more : length (es ++ outer ∷ []) + 1 ≤ MAX_DEPTH = omega (arith, length-append es (outer ∷ []), few) in
    rw is (within-start end (es ++ outer ∷ []) e start more w)
within-entered end false es xs outer e is start few w =
    rw is (within-start end es e start (omega (arith, few)) (within-front end es outer w))
