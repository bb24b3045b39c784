-- What the elements of a tree have at most.
use Rattle.std.specs.Prelude.{◌≡◌, ℕ, suc, ◌+◌, ◌≤◌, max, List, [], ◌∷◌, map, vec_len, Vec}
use Rattle.std.specs.declared.alloc.Global.{Global}
use Rattle.style_xml.specs.declared.limits.TheConstants.{MAX_ATTRIBUTES, MAX_DEPTH}
use Rattle.style_xml.specs.declared.tree.Attribute.{Attribute}
use Rattle.style_xml.specs.declared.tree.Element.{Element}
use Rattle.style_xml.specs.declared.tree.Content.{Content}
use Rattle.style_xml.specs.declared.tree.Content.TheOpen.{Content-F, Element-F}
use Rattle.style_xml.specs.declared.tree.Content.TheFolds.{fold-Content, fold-Element}

-- the greatest number, or 0 where there is none
abbrev pub most : List ℕ → ℕ
most [] = 0
most (n ∷ ns) = max n (most ns)

-- what an element has by itself: a number that its attributes and its offset give
abbrev pub Own : Type 0
Own = Vec Attribute Global → ℕ → ℕ

abbrev pub part_step : Content-F ℕ ℕ → ℕ
part_step (Content-F.Element n) = n
part_step (Content-F.Text text) = 0

abbrev pub element_step : Own → ℕ → Element-F ℕ ℕ → ℕ
element_step own more e = max (own e.attributes e.offset) (more + most e.content.items)

-- the most that an element of a tree has, each with `more` for every element around it
abbrev pub greatest_of : Own → ℕ → Element → ℕ
greatest_of own more = fold-Element ℕ ℕ part_step (element_step own more)

abbrev pub greatest_of_part : Own → ℕ → Content → ℕ
greatest_of_part own more = fold-Content ℕ ℕ part_step (element_step own more)

-- the same of elements that each stand in the one before, the first with `above` for what is
-- around it
abbrev pub greatest_of_open : Own → ℕ → ℕ → List Element → ℕ
greatest_of_open own more above [] = 0
greatest_of_open own more above (e ∷ es) =
    max (above + greatest_of own more e) (greatest_of_open own more (above + more) es)

-- an element is one deep
abbrev pub one : Own
one attributes offset = 1

abbrev pub attribute_count : Own
attribute_count attributes offset = vec_len attributes

-- the first place behind all at which an element and its attributes begin
abbrev pub offset_end : Own
offset_end attributes offset = max (suc offset) (most (map (λ a. suc a.offset) attributes.items))

-- a tree is within the limits, and its offsets are within a text of this length
pub record IsWithinLimits (end : ℕ) (root : Element) : Type 0 where
  pub depth : greatest_of one 1 root ≤ MAX_DEPTH
  pub attributes : greatest_of attribute_count 0 root ≤ MAX_ATTRIBUTES
  pub offsets : greatest_of offset_end 0 root ≤ end

-- the same of elements that each stand in the one before
pub record AreWithinLimits (end : ℕ) (es : List Element) : Type 0 where
  pub depth : greatest_of_open one 1 0 es ≤ MAX_DEPTH
  pub attributes : greatest_of_open attribute_count 0 0 es ≤ MAX_ATTRIBUTES
  pub offsets : greatest_of_open offset_end 0 0 es ≤ end

-- an element that has nothing in it yet is so
pub record IsStart (end : ℕ) (e : Element) : Type 0 where
  pub empty : e.content.items ≡ []
  pub attributes : vec_len e.attributes ≤ MAX_ATTRIBUTES
  pub offsets : offset_end e.attributes e.offset ≤ end
