-- The frames of a writing context: trees that are still open, the outermost first.
use Rattle.std.specs.Prelude.{ℕ, ◌-◌, Bool, false, not, ◌||◌, List, [], ◌∷◌, ◌++◌, length, take, slice_get, slice_set, Option, None, Some}
use Rattle.std.specs.Option.{option_and_then, option_map_or}
use Rattle.value_trees.specs.Child.{Child, text, elem, markup, link, transparent, Kids, no_kids, kid, kids_of}
use Rattle.std.specs.Str.{chars}
use Rattle.value_trees.specs.Tree.{last_text, no_children, child_has_content, has_content}
use Rattle.value_trees.specs.LastText.{put_last_text}
use Rattle.value_trees.specs.LastTextStep.{last_child, put_last}
use Rattle.value_lists.specs.Stack.{topmost, put_topmost}
use Rattle.value_trees.specs.Simplify.{same_formatting}
use Rattle.value_sources.specs.declared.formatting.Formatting.{Formatting}
use Rattle.value_sources.specs.declared.formatting.Formatted.{Formatted}
use Rattle.value_sources.specs.declared.formatting.Display.{Display}
use Rattle.value_trees.specs.declared.elem.ElemMeta.{ElemMeta}
use Rattle.layout_context.specs.Steps.{visible_from}

abbrev pub Frames : Type 0
Frames = List (List Child)

-- a tree with its last text changed by f; the same tree where there is none
abbrev pub on_last_text : (List ℕ → List ℕ) → List Child → List Child
on_last_text f cs = option_map_or
    (λ (t : Formatted). put_last_text cs (record t { text = f t.text }))
    (last_text cs) cs

-- the text that a child is, or that it holds through elements of one child each
abbrev mutual
  pub sole_text : Child → Option (List ℕ)
  sole_text (text t) = Some t.text
  sole_text (elem ks d m) = kids_sole_text ks
  sole_text (markup s) = None
  sole_text (link t s) = None
  sole_text (transparent i f) = None

  pub kids_sole_text : Kids → Option (List ℕ)
  kids_sole_text no_kids = None
  kids_sole_text (kid c ks) = elim ks [ no_kids ↦ sole_text c | kid _ _ ↦ None ]

-- a child with that text changed by f; the same child where there is none
abbrev mutual
  pub on_sole_text : (List ℕ → List ℕ) → Child → Child
  on_sole_text f (text t) = text (record t { text = f t.text })
  on_sole_text f (elem ks d m) = elem (kids_on_sole_text f ks) d m
  on_sole_text f (markup s) = markup s
  on_sole_text f (link t s) = link t s
  on_sole_text f (transparent i t) = transparent i t

  pub kids_on_sole_text : (List ℕ → List ℕ) → Kids → Kids
  kids_on_sole_text f no_kids = no_kids
  kids_on_sole_text f (kid c ks) =
      elim ks [ no_kids ↦ kid (on_sole_text f c) no_kids | kid d ds ↦ kid c (kid d ds) ]

-- the same in the last child of a tree
abbrev pub end_sole_text : List Child → Option (List ℕ)
end_sole_text cs = option_and_then sole_text (last_child cs)

abbrev pub on_end_sole_text : (List ℕ → List ℕ) → List Child → List Child
on_end_sole_text f cs = option_map_or (λ c. put_last cs (on_sole_text f c)) (last_child cs) cs

abbrev pub is_filled : List Child → Bool
is_filled cs = not (no_children cs)

-- the topmost frame that has children
abbrev pub filled : Frames → Option (List Child)
filled frames = option_and_then (slice_get frames) (topmost is_filled frames)

-- the frames with that one changed by f; the same frames where there is none
abbrev pub on_filled : (List Child → List Child) → Frames → Frames
on_filled f frames = option_map_or (λ frame. put_topmost is_filled frames (f frame))
    (filled frames) frames

-- the top frame
abbrev pub top : Frames → Option (List Child)
top frames = slice_get frames (length frames - 1)

-- the frames with the top one changed by f
abbrev pub on_top : (List Child → List Child) → Frames → Frames
on_top f frames = option_map_or (λ frame. slice_set frames (length frames - 1) (f frame))
    (top frames) frames

-- the frames below the top one
abbrev pub below : Frames → Frames
below frames = take (length frames - 1) frames

-- what a closed frame adds to the one below: an element, where it is set off or stands for
-- something, and else its children
abbrev pub closed : Option Display → Option ElemMeta → List Child → List Child
closed None None cs = cs
closed d m cs = elem (kids_of cs) d m ∷ []

-- the frames with the top one closed into the one below
abbrev pub committed : Option Display → Option ElemMeta → Frames → Frames
committed d m frames = option_map_or (λ frame. on_top (λ cs. cs ++ closed d m frame) (below frames))
    (top frames) frames

-- a tree with its last child changed by f
abbrev pub on_last_child : (Child → Child) → List Child → List Child
on_last_child f cs = option_map_or (λ c. put_last cs (f c)) (last_child cs) cs

-- a child is a text in that formatting
abbrev pub takes : Formatting → Child → Bool
takes f (text t) = same_formatting t.formatting f
takes f (elem ks d m) = false
takes f (markup s) = false
takes f (link t s) = false
takes f (transparent i t) = false

-- a text with these bytes at its end; every other child as it is
abbrev pub extended : List ℕ → Child → Child
extended more (text t) = text (record t { text = t.text ++ more })
extended more (elem ks d m) = elem ks d m
extended more (markup s) = markup s
extended more (link t s) = link t s
extended more (transparent i t) = transparent i t

-- a child shows something behind n bytes of its text
abbrev pub child_shows : ℕ → Child → Bool
child_shows n (text t) = visible_from n (chars t.text)
child_shows n c = child_has_content c

-- some child does, the first one behind a prefix of n bytes
abbrev pub shows_behind : ℕ → List Child → Bool
shows_behind n [] = false
shows_behind n (c ∷ cs) = child_shows n c || has_content cs
