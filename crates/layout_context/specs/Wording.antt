-- What is written with the terms of a style's locales.
use Rattle.std.specs.Prelude.{ℕ, false, ◌==◌, ◌∷◌, [], ◌++◌, if◌then◌else◌, List, Option, None, Some}
use Rattle.std.specs.Option.{option_map_or}
use Rattle.value_trees.specs.Child.{markup, link, transparent}
use Rattle.value_sources.specs.declared.taxonomy.Term.{Term}
use Rattle.value_sources.specs.declared.taxonomy.OtherTerm.{OtherTerm}
use Rattle.value_sources.specs.declared.taxonomy.TermForm.{TermForm}
use Rattle.value_sources.specs.declared.entry.Chunk.{Chunk}
use Rattle.value_sources.specs.declared.entry.ChunkKind.{ChunkKind}
use Rattle.driver_lookup.specs.Lookup.{Lookup, term_of, punctuation_in_quotes}
use Rattle.layout_context.specs.Steps.{ClosingQuotes}
use Rattle.layout_context.specs.WritingState.{State, after_push_str, verbatim, saved, with_child, formatting, has_content_since, ends_so, closed_elem, discarded, pulling, deeper, less_deep}

-- a term that is asked for without a form
unfoldable pub plain_term : Lookup → OtherTerm → Option (List ℕ)
plain_term k name = term_of k None (Term.Other name) TermForm.Long false

unfoldable pub closing_quotes : Lookup → ClosingQuotes
closing_quotes k = record {
  outer = plain_term k OtherTerm.CloseQuote;
  inner = plain_term k OtherTerm.CloseInnerQuote;
}

-- s written
unfoldable pub pushed : Lookup → List ℕ → State → State
pushed k s a = after_push_str (closing_quotes k) s a

-- a term written; nothing without one
unfoldable pub term_pushed : Lookup → OtherTerm → State → State
term_pushed k name a = option_map_or (λ s. pushed k s a) (plain_term k name) a

-- the opening quote, or inside quotes the inner one
unfoldable pub opening_quote : ℕ → OtherTerm
opening_quote depth = if depth == 0 then OtherTerm.OpenQuote else OtherTerm.OpenInnerQuote

unfoldable pub closing_quote : ℕ → OtherTerm
closing_quote depth = if depth == 0 then OtherTerm.CloseQuote else OtherTerm.CloseInnerQuote

unfoldable pub quotes_opened : Lookup → State → State
quotes_opened k a = deeper (term_pushed k (opening_quote a.quote_depth) a)

unfoldable pub quotes_closed : Lookup → State → State
quotes_closed k a = let b = less_deep a in term_pushed k (closing_quote b.quote_depth) b

-- closing quotes may pull punctuation in, where the locale has it inside quotes
unfoldable pub pulling_if_asked : Lookup → State → State
pulling_if_asked k a = if punctuation_in_quotes k then pulling a else a

-- a piece of a text: as it stands where it is verbatim, and as markup where it is a formula
unfoldable pub chunk_of_kind : Lookup → ChunkKind → List ℕ → State → State
chunk_of_kind k ChunkKind.Normal s a = pushed k s a
chunk_of_kind k ChunkKind.Verbatim s a = verbatim s a
chunk_of_kind k ChunkKind.Math s a = with_child (markup s) (saved a)

abbrev pub chunk_pushed : Lookup → Chunk → State → State
chunk_pushed k chunk a = chunk_of_kind k chunk.kind chunk.value a

abbrev pub chunks_pushed : Lookup → List Chunk → State → State
chunks_pushed k [] a = a
chunks_pushed k (chunk ∷ chunks) a = chunks_pushed k chunks (chunk_pushed k chunk a)

abbrev pub joined_values : List Chunk → List ℕ
joined_values [] = []
joined_values (chunk ∷ chunks) = chunk.value ++ joined_values chunks

-- a link of a text, in the formatting of here
unfoldable pub linked : List Chunk → List ℕ → State → State
linked chunks url a = with_child
    (link (record { text = joined_values chunks; formatting = formatting a }) url) (saved a)

-- a place for what the caller puts in for a cite
unfoldable pub marked : ℕ → State → State
marked cite a = with_child (transparent cite (formatting a)) (saved a)

-- the suffix, unless the text ends with it
unfoldable pub with_suffix : Lookup → Option (List ℕ) → State → State
with_suffix k None a = a
with_suffix k (Some s) a = if ends_so s a then a else pushed k s a

-- the top frame, which a prefix of n bytes began, is closed with its suffix; where it shows nothing
-- else it is dropped
unfoldable pub suffixed : Lookup → Option (List ℕ) → ℕ → ℕ → State → State
suffixed k suffix formats n a =
    if has_content_since n a
    then closed_elem formats None None (with_suffix k suffix (saved a))
    else discarded formats (saved a)
