-- What a writing context holds, and what each of its calls makes of it. A stack is the list of its
-- items, the bottom first.
use Rattle.std.specs.Prelude.{ℕ, ◌-◌, ◌+◌, ◌^◌, Bool, true, false, ◌==◌, ◌&&◌, not, nat_lt, min, if◌then◌else◌, List, [], ◌∷◌, ◌++◌, length, take, drop, map, slice_get, Option, None, Some, option_map, unwrap_or, is_some, string_bytes}
use Rattle.std.specs.Option.{option_map_or, option_and_then}
use Rattle.std.specs.Str.{trim_end}
use Rattle.value_trees.specs.Child.{Child, text}
use Rattle.std.specs.List.{ends_with}
use Rattle.std.specs.Prelude.{nat_eq}
use Rattle.value_trees.specs.Tree.{last_text}
use Rattle.value_sources.specs.declared.formatting.Formatted.{Formatted}
use Rattle.value_trees.specs.Simplify.{join_last}
use Rattle.value_sources.specs.Formatting.{normal, nothing_asked, applied}
use Rattle.value_styles.specs.Element.{NameOptions}
use Rattle.value_styles.specs.ElementView.{options_view}
use Rattle.value_sources.specs.declared.formatting.Formatting.{Formatting}
use Rattle.value_sources.specs.declared.formatting.StyleFormatting.{StyleFormatting}
use Rattle.value_sources.specs.declared.formatting.Display.{Display}
use Rattle.value_trees.specs.declared.elem.ElemMeta.{ElemMeta}
use Rattle.layout_context.specs.declared.writing.WritingContext.{WritingContext}
use Rattle.layout_context.specs.Steps.{ClosingQuotes, opens_tight, opens_with_mark, has_letter, without_ending, without_periods, spaced, term_text, ends_quoted, pulled}
use Rattle.layout_context.specs.OpenFrames.{Frames, on_last_text, end_sole_text, on_end_sole_text, filled, on_filled, top, on_top, below, committed, shows_behind}

pub record State : Type 0 where
  -- the text that is not yet in a frame
  pub buffer : List ℕ
  -- the trees that are open
  pub frames : Frames
  pub formats : List Formatting
  pub delimiters : List (Option (List ℕ))
  pub name_options : List NameOptions
  -- closing quotes may pull punctuation in
  pub pulling : Bool
  -- periods are left out
  pub stripping : Bool
  -- how many quotes are open
  pub quote_depth : ℕ

abbrev pub state : WritingContext → State
state c = record {
  buffer = string_bytes c.buf;
  frames = c.frames;
  formats = c.formats;
  delimiters = map (option_map (λ s. s.now)) c.delimiters;
  name_options = map (λ o. options_view o.now) c.name_options;
  pulling = c.pulling;
  stripping = c.stripping;
  quote_depth = c.quote_depth;
}

-- how high the stacks are
pub record Heights : Type 0 where
  pub frames : ℕ
  pub formats : ℕ
  pub delimiters : ℕ
  pub name_options : ℕ

abbrev pub heights : State → Heights
heights a = record {
  frames = length a.frames;
  formats = length a.formats;
  delimiters = length a.delimiters;
  name_options = length a.name_options;
}

-- nothing written
abbrev pub begun : NameOptions → State
begun options = record {
  buffer = [];
  frames = [] ∷ [];
  formats = normal ∷ [];
  delimiters = None ∷ [];
  name_options = options ∷ [];
  pulling = false;
  stripping = false;
  quote_depth = 0;
}

abbrev pub is_saved : State → Bool
is_saved a = length a.buffer == 0

-- the formatting on top
abbrev pub formatting : State → Formatting
formatting a = unwrap_or (slice_get a.formats (length a.formats - 1)) normal

-- a child at the end of the top frame
unfoldable pub with_child : Child → State → State
with_child c a = record a { frames = on_top (λ cs. cs ++ c ∷ []) a.frames }

-- the buffer as a text at the end of the top frame, joined to a text of its formatting that stands
-- there
unfoldable pub saved : State → State
saved a =
    if is_saved a
    then a
    else record a {
      buffer = [];
      frames = on_top (λ cs.
          join_last cs (text (record { text = a.buffer; formatting = formatting a })))
          a.frames;
    }

-- Writing text.

-- the text before changed by f: the buffer, or where that is empty the last text of the topmost
-- frame that has children
abbrev pub on_text_before : (List ℕ → List ℕ) → State → State
on_text_before f a = if is_saved a then record a { frames = on_filled (on_last_text f) a.frames }
    else record a { buffer = f a.buffer }

-- where s begins with white space, or closely, white space before it goes
abbrev pub trimmed_for : List ℕ → State → State
trimmed_for s a = if opens_tight s then on_text_before trim_end a else a

-- where s has no letter, and stands at the end already, it goes there
abbrev pub unrepeated_for : List ℕ → State → State
unrepeated_for s a = if has_letter s then a else on_text_before (without_ending (trim_end s)) a

-- s, at the end of the buffer
abbrev pub appended : List ℕ → State → State
appended s a = record a { buffer = a.buffer ++ (if a.stripping then without_periods s else s) }

abbrev pub unpulled : State → State
unpulled a = record a { pulling = false }

-- the text that a mark may be pulled into: the buffer, or where that is empty the one text at the
-- end of the topmost frame that has children
abbrev pub quoted_text : State → Option (List ℕ)
quoted_text a = if is_saved a then option_and_then end_sole_text (filled a.frames)
    else Some a.buffer

-- s begins with a mark that may be pulled in
abbrev pub may_pull : List ℕ → State → Bool
may_pull s a = a.pulling && opens_with_mark s

-- that text changed by f
abbrev pub on_quoted_text : (List ℕ → List ℕ) → State → State
on_quoted_text f a = if is_saved a
    then record a { frames = on_filled (on_end_sole_text f) a.frames }
    else record a { buffer = f a.buffer }

-- the mark before the closing quote of that text, where it has one
abbrev pub after_pull : ClosingQuotes → List ℕ → State → State
after_pull q s a = if may_pull s a then on_quoted_text (pulled q (take 1 s)) a else a

-- what is left of s then
abbrev pub left_by_pull : ClosingQuotes → List ℕ → State → List ℕ
left_by_pull q s a = if may_pull s a && option_map_or (ends_quoted q) (quoted_text a) false
    then drop 1 s
    else s

-- s written where nothing is pulled
unfoldable pub written : List ℕ → State → State
written s a = unpulled (appended s (unrepeated_for s (trimmed_for s a)))

unfoldable pub after_push_str : ClosingQuotes → List ℕ → State → State
after_push_str q s a = written (left_by_pull q s a) (after_pull q s a)

-- s as it stands
unfoldable pub verbatim : List ℕ → State → State
verbatim s a = unpulled (record a { buffer = a.buffer ++ s })

-- a space behind the buffer, or where that is empty behind the last text of the top frame
unfoldable pub with_space : State → State
with_space a = if is_saved a then record a { frames = on_top (on_last_text spaced) a.frames }
    else record a { buffer = spaced a.buffer }

-- Formats and frames.

abbrev pub asks_nothing : StyleFormatting → Bool
asks_nothing f = not (is_some f.font_style) && (not (is_some f.font_variant)
    && (not (is_some f.font_weight)
    && (not (is_some f.text_decoration) && not (is_some f.vertical_align))))

-- a format that asks for nothing changes nothing
unfoldable pub formatted : StyleFormatting → State → State
formatted f a = if asks_nothing f then a
    else (let b = saved a in record b { formats = b.formats ++ applied f (formatting b) ∷ [] })

abbrev pub cut_formats : ℕ → State → State
cut_formats height a = record a { formats = take height a.formats }

-- a stack that is not higher stays
unfoldable pub unformatted : ℕ → State → State
unformatted height a = if nat_lt height (length a.formats) then cut_formats height (saved a) else a

unfoldable pub opened : StyleFormatting → State → State
opened f a = let b = formatted f (saved a) in record b { frames = b.frames ++ [] ∷ [] }

-- the top frame closed into the one below, and the formats cut back
unfoldable pub closed_elem : ℕ → Option Display → Option ElemMeta → State → State
closed_elem height d m a = let b = saved a in
    cut_formats height (record b { frames = committed d m b.frames })

unfoldable pub discarded : ℕ → State → State
discarded height a = let b = saved a in cut_formats height (record b { frames = below b.frames })

-- a frame that begins with a prefix, as it stands
unfoldable pub prefixed : Option (List ℕ) → State → State
prefixed prefix a = let b = opened nothing_asked a
    in record b { buffer = b.buffer ++ term_text prefix }

-- the top frame shows something behind a prefix of n bytes, once the buffer is saved
unfoldable pub has_content_since : ℕ → State → Bool
has_content_since n a = option_map_or (shows_behind n) (top (saved a).frames) false

-- the last text of the top frame ends with s
unfoldable pub ends_so : List ℕ → State → Bool
ends_so s a = option_map_or (λ (t : Formatted). ends_with nat_eq t.text s)
    (option_and_then last_text (top a.frames)) false

-- Flags and further stacks.

abbrev pub pulling : State → State
pulling a = record a { pulling = true }

abbrev pub stripping : Bool → State → State
stripping asked a = if asked then record a { stripping = true } else a

abbrev pub not_stripping : State → State
not_stripping a = record a { stripping = false }

abbrev pub delimited : Option (List ℕ) → State → State
delimited d a = record a { delimiters = a.delimiters ++ d ∷ [] }

abbrev pub undelimited : ℕ → State → State
undelimited height a = record a { delimiters = take height a.delimiters }

abbrev pub with_options : NameOptions → State → State
with_options o a = record a { name_options = a.name_options ++ o ∷ [] }

abbrev pub without_options : State → State
without_options a = record a { name_options = take (length a.name_options - 1) a.name_options }

-- one more open quote; the count stays at its greatest value
abbrev pub deeper : State → State
deeper a = record a { quote_depth = min (a.quote_depth + 1) (2 ^ 64 - 1) }

-- one less; none stays none
abbrev pub less_deep : State → State
less_deep a = record a { quote_depth = a.quote_depth - 1 }

-- what was written into the bottom frame
unfoldable pub flushed : State → Option (List Child)
flushed a = slice_get (saved a).frames 0
