-- Writing of parts leaves as many formats and frames as there were.
use Rattle.std.proofs.Common.{◌≡◌, ℕ, ◌+◌, ◌<◌, ◌≤◌, ◌-◌, ◌∷◌, ◌++◌, [], cond, List, length, Option, None, Some, refl, ap, sym, subst, ◌∙◌, arith, length-append}
use Rattle.std.proofs.lemmas.List.{length-take-le, length-set}
use Rattle.std.proofs.lemmas.Option.{slice_get-get_or}
use Rattle.std.specs.Prelude.{take}
use Rattle.std.specs.Option.{option_map_or}
use Rattle.std.specs.Str.{trim_end}
use Rattle.value_trees.specs.Child.{Child}
use Rattle.value_lists.specs.Stack.{topmost, put_topmost}
use Rattle.value_trees.specs.declared.elem.ElemMeta.{ElemMeta}
use Rattle.value_sources.specs.declared.entry.Chunk.{Chunk}
use Rattle.value_sources.specs.declared.entry.ChunkKind.{ChunkKind}
use Rattle.value_sources.specs.Formatting.{nothing_asked}
use Rattle.value_sources.specs.declared.formatting.Display.{Display}
use Rattle.value_sources.specs.declared.formatting.StyleFormatting.{StyleFormatting}
use Rattle.value_sources.specs.declared.taxonomy.OtherTerm.{OtherTerm}
use Rattle.driver_lookup.specs.Lookup.{Lookup, punctuation_in_quotes}
use Rattle.layout_context.specs.OpenFrames.{Frames, is_filled, filled, on_filled, on_top, below, closed, committed}
use Rattle.csl_writing.specs.PartsWritten.{leaf_written, node_begun, node_ended, delimiter_pushed, part_written, joined_written, rest_written, parts_written}
use Rattle.layout_picking.specs.Pieces.{LeafValue, text_leaf, number_leaf, suffix_leaf, chunked_leaf, link_leaf, mark_leaf, NodeValue, Part, leaf_part, node_part, Parts, no_parts, part, parts_of}
use Rattle.layout_context.specs.Steps.{ClosingQuotes, term_text, opens_tight, has_letter, without_ending, pulled}
use Rattle.layout_context.specs.Wording.{plain_term, closing_quotes, pushed, term_pushed, opening_quote, closing_quote, quotes_opened, quotes_closed, pulling_if_asked, chunk_of_kind, chunks_pushed, linked, marked, with_suffix, suffixed}
use Rattle.layout_context.specs.WritingState.{State, is_saved, saved, with_child, on_text_before, trimmed_for, unrepeated_for, may_pull, on_quoted_text, after_pull, left_by_pull, written, after_push_str, verbatim, formatted, opened, closed_elem, discarded, prefixed, has_content_since, ends_so, stripping, not_stripping, less_deep}
use Rattle.csl_writing.proofs.FormatHeights.{either_has, length-on_top, formats-saved, frames-saved, formats-formatted, frames-formatted}

pub record Keeps (a b : State) : Type 0 where
  pub formats : length b.formats ≡ length a.formats
  pub frames : length b.frames ≡ length a.frames

keeps : (a : State) → Keeps a a
keeps a = record { formats = refl; frames = refl }

both : (a b c : State) → Keeps a b → Keeps b c → Keeps a c
both a b c p q = record { formats = q.formats ∙ p.formats; frames = q.frames ∙ p.frames }

length-put : (t : Option ℕ) (F : Frames) (w : List Child) → topmost is_filled F ≡ t → length (put_topmost is_filled F w) ≡ length F
length-put None F w e = rw e refl
length-put (Some i) F w e = rw e (length-set F i w)

length-on_filled : (f : List Child → List Child) (F : Frames) → length (on_filled f F) ≡ length F
length-on_filled f F =
    elim (filled F) as (λ t. length (option_map_or (λ frame. put_topmost is_filled F (f frame)) t F) ≡ length F)
    [ None ↦ refl | Some frame ↦ length-put (topmost is_filled F) F (f frame) refl ]

saved_keeps : (a : State) → Keeps a (saved a)
saved_keeps a = record { formats = ap length (formats-saved a); frames = frames-saved a }

before_keeps : (f : List ℕ → List ℕ) (a : State) → Keeps a (on_text_before f a)
before_keeps f a = either_has (λ x. Keeps a x) (is_saved a) _ _ (record { formats = refl; frames = length-on_filled _ a.frames }) (record { formats = refl; frames = refl })

quoted_keeps : (f : List ℕ → List ℕ) (a : State) → Keeps a (on_quoted_text f a)
quoted_keeps f a = either_has (λ x. Keeps a x) (is_saved a) _ _ (record { formats = refl; frames = length-on_filled _ a.frames }) (record { formats = refl; frames = refl })

trimmed_keeps : (s : List ℕ) (a : State) → Keeps a (trimmed_for s a)
trimmed_keeps s a = either_has (λ x. Keeps a x) (opens_tight s) _ _ (before_keeps trim_end a) (keeps a)

unrepeated_keeps : (s : List ℕ) (a : State) → Keeps a (unrepeated_for s a)
unrepeated_keeps s a = either_has (λ x. Keeps a x) (has_letter s) _ _ (keeps a) (before_keeps (without_ending (trim_end s)) a)

pull_keeps : (q : ClosingQuotes) (s : List ℕ) (a : State) → Keeps a (after_pull q s a)
pull_keeps q s a = either_has (λ x. Keeps a x) (may_pull s a) _ _ (quoted_keeps (pulled q (take 1 s)) a) (keeps a)

written_keeps : (s : List ℕ) (a : State) → Keeps a (written s a)
unfolding written
written_keeps s a =
    let h = both a (trimmed_for s a) (unrepeated_for s (trimmed_for s a)) (trimmed_keeps s a) (unrepeated_keeps s (trimmed_for s a)) in
    record { formats = h.formats; frames = h.frames }

pushed_keeps : (k : Lookup) (s : List ℕ) (a : State) → Keeps a (pushed k s a)
unfolding pushed after_push_str
pushed_keeps k s a =
    let q = closing_quotes k in
    both a (after_pull q s a) _ (pull_keeps q s a) (written_keeps (left_by_pull q s a) (after_pull q s a))

term_keeps : (k : Lookup) (name : OtherTerm) (a : State) → Keeps a (term_pushed k name a)
unfolding term_pushed
term_keeps k name a = elim (plain_term k name) as (λ t. Keeps a (option_map_or (λ s. pushed k s a) t a)) [ None ↦ keeps a | Some s ↦ pushed_keeps k s a ]

opened_quotes_keep : (k : Lookup) (a : State) → Keeps a (quotes_opened k a)
unfolding quotes_opened
opened_quotes_keep k a = let h = term_keeps k (opening_quote a.quote_depth) a in record { formats = h.formats; frames = h.frames }

closed_quotes_keep : (k : Lookup) (a : State) → Keeps a (quotes_closed k a)
unfolding quotes_closed
closed_quotes_keep k a = let h = term_keeps k (closing_quote (less_deep a).quote_depth) (less_deep a) in record { formats = h.formats; frames = h.frames }

pulling_keeps : (k : Lookup) (a : State) → Keeps a (pulling_if_asked k a)
unfolding pulling_if_asked
pulling_keeps k a = either_has (λ x. Keeps a x) (punctuation_in_quotes k) _ _ (record { formats = refl; frames = refl }) (keeps a)

child_keeps : (c : Child) (a : State) → Keeps a (with_child c a)
unfolding with_child
child_keeps c a = record { formats = refl; frames = length-on_top _ a.frames }

saved_child_keeps : (c : Child) (a : State) → Keeps a (with_child c (saved a))
saved_child_keeps c a = both a (saved a) _ (saved_keeps a) (child_keeps c (saved a))

chunk_keeps : (k : Lookup) (kind : ChunkKind) (s : List ℕ) (a : State) → Keeps a (chunk_of_kind k kind s a)
unfolding chunk_of_kind verbatim
chunk_keeps k ChunkKind.Normal s a = pushed_keeps k s a
chunk_keeps k ChunkKind.Verbatim s a = record { formats = refl; frames = refl }
chunk_keeps k ChunkKind.Math s a = saved_child_keeps _ a

chunks_keep : (k : Lookup) (cs : List Chunk) (a : State) → Keeps a (chunks_pushed k cs a)
chunks_keep k [] a = keeps a
chunks_keep k (c ∷ cs) a = both a (chunk_of_kind k c.kind c.value a) _ (chunk_keeps k c.kind c.value a) (chunks_keep k cs _)

leaf_keeps : (k : Lookup) (leaf : LeafValue) (a : State) → Keeps a (leaf_written k leaf a)
unfolding leaf_written linked marked
leaf_keeps k (text_leaf s) a = pushed_keeps k s a
leaf_keeps k (number_leaf n) a = pushed_keeps k _ a
leaf_keeps k (suffix_leaf n) a = pushed_keeps k _ a
leaf_keeps k (chunked_leaf t) a = chunks_keep k t.0 a
leaf_keeps k (link_leaf t) a = saved_child_keeps _ a
leaf_keeps k (mark_leaf cite) a = saved_child_keeps _ a

delimiter_keeps : (k : Lookup) (d : Option (List ℕ)) (a : State) → Keeps a (delimiter_pushed k d a)
unfolding delimiter_pushed
delimiter_keeps k None a = keeps a
delimiter_keeps k (Some s) a = pushed_keeps k s a

suffix_keeps : (k : Lookup) (suffix : Option (List ℕ)) (a : State) → Keeps a (with_suffix k suffix a)
unfolding with_suffix
suffix_keeps k None a = keeps a
suffix_keeps k (Some s) a = either_has (λ x. Keeps a x) (ends_so s a) _ _ (keeps a) (pushed_keeps k s a)

-- n more frames, and no fewer formats
record Opens (n : ℕ) (a b : State) : Type 0 where
  formats : length a.formats ≤ length b.formats
  frames : length b.frames ≡ length a.frames + n

opened_opens : (f : StyleFormatting) (a : State) → Opens 1 a (opened f a)
unfolding opened
opened_opens f a =
    let kept = saved_keeps a in
    let b = formatted f (saved a) in
    let more : length (saved a).formats ≤ length b.formats = formats-formatted f (saved a) in
    let same : length b.frames ≡ length (saved a).frames = frames-formatted f (saved a) in
    let one : length (b.frames ++ [] ∷ []) ≡ length b.frames + 1 = length-append b.frames ([] ∷ []) in
    record { formats = omega (arith, kept.formats); frames = omega (arith, kept.frames) }

prefixed_opens : (prefix : Option (List ℕ)) (a : State) → Opens 1 a (prefixed prefix a)
unfolding prefixed
prefixed_opens prefix a = let h = opened_opens nothing_asked a in record { formats = h.formats; frames = h.frames }

node_opens : (k : Lookup) (node : NodeValue) (a : State) → Opens 2 a (node_begun k node a)
unfolding node_begun
node_opens k node a =
    let p = prefixed node.look.affixes.prefix a in
    let b = opened node.look.formatting p in
    let first = prefixed_opens node.look.affixes.prefix a in
    let second = opened_opens node.look.formatting p in
    let c = cond node.quotes (quotes_opened k b) b in
    let third = either_has (λ x. Keeps b x) node.quotes _ _ (opened_quotes_keep k b) (keeps b) in
    let fourth : Keeps c (stripping node.strip_periods c) = either_has (λ x. Keeps c x) node.strip_periods _ _ (record { formats = refl; frames = refl }) (keeps c) in
    record {
      formats = omega (arith, first.formats, second.formats, third.formats, fourth.formats);
      frames = omega (arith, first.frames, second.frames, third.frames, fourth.frames);
    }

-- h formats, and one frame less
record Closes (h : ℕ) (a b : State) : Type 0 where
  formats : length b.formats ≡ h
  frames : length b.frames + 1 ≡ length a.frames

length-below : (F : Frames) → 0 < length F → length (below F) + 1 ≡ length F
length-below F some =
    let less : length F - 1 ≤ length F = omega arith in
    let e : length (below F) ≡ length F - 1 = length-take-le (length F - 1) F less in
    omega arith

length-committed : (d : Option Display) (m : Option ElemMeta) (F : Frames) → 0 < length F → length (committed d m F) + 1 ≡ length F
length-committed d m F some =
    let last : length F - 1 < length F = omega arith in
    subst (λ t. length (option_map_or (λ frame. on_top (λ cs. cs ++ closed d m frame) (below F)) t F) + 1 ≡ length F) (sym (slice_get-get_or F (length F - 1) [] last))
    (ap (λ n. n + 1) (length-on_top _ (below F)) ∙ length-below F some)

cut_saved : (h : ℕ) (a : State) → h ≤ length a.formats → length (take h (saved a).formats) ≡ h
cut_saved h a le = length-take-le h (saved a).formats (subst (λ l. h ≤ length l) (sym (formats-saved a)) le)

elem_closes : (h : ℕ) (d : Option Display) (m : Option ElemMeta) (a : State) → h ≤ length a.formats → 0 < length a.frames → Closes h a (closed_elem h d m a)
unfolding closed_elem
elem_closes h d m a le some =
    let some_saved : 0 < length (saved a).frames = omega (arith, frames-saved a) in
    record { formats = cut_saved h a le; frames = length-committed d m (saved a).frames some_saved ∙ frames-saved a }

discard_closes : (h : ℕ) (a : State) → h ≤ length a.formats → 0 < length a.frames → Closes h a (discarded h a)
unfolding discarded
discard_closes h a le some =
    let some_saved : 0 < length (saved a).frames = omega (arith, frames-saved a) in
    record { formats = cut_saved h a le; frames = length-below (saved a).frames some_saved ∙ frames-saved a }

-- seen from a state that keeps the heights
closes_from : (h : ℕ) (a b c : State) → Keeps a b → Closes h b c → Closes h a c
closes_from h a b c p q = record { formats = q.formats; frames = q.frames ∙ p.frames }

suffix_closes : (k : Lookup) (suffix : Option (List ℕ)) (h n : ℕ) (a : State) → h ≤ length a.formats → 0 < length a.frames → Closes h a (suffixed k suffix h n a)
unfolding suffixed
suffix_closes k suffix h n a le some =
    let kept = saved_keeps a in
    let b = with_suffix k suffix (saved a) in
    let all = both a (saved a) b kept (suffix_keeps k suffix (saved a)) in
    let le_b : h ≤ length b.formats = omega (arith, all.formats) in
    let some_b : 0 < length b.frames = omega (arith, all.frames) in
    let le_s : h ≤ length (saved a).formats = omega (arith, kept.formats) in
    let some_s : 0 < length (saved a).frames = omega (arith, kept.frames) in
    either_has (λ x. Closes h a x) (has_content_since n a) _ _
    (closes_from h a b _ all (elem_closes h None None b le_b some_b))
    (closes_from h a (saved a) _ kept (discard_closes h (saved a) le_s some_s))

-- a node closes both of its frames
node_closes : (k : Lookup) (node : NodeValue) (h : ℕ) (a : State) → h ≤ length a.formats → 1 < length a.frames
    → (length (node_ended k node h a).formats ≡ h) × (length (node_ended k node h a).frames + 2 ≡ length a.frames)
unfolding node_ended
node_closes k node h a le some =
    let b = cond node.strip_periods (not_stripping a) a in
    let first : Keeps a b = either_has (λ x. Keeps a x) node.strip_periods _ _ (record { formats = refl; frames = refl }) (keeps a) in
    let c = cond node.quotes (pulling_if_asked k (quotes_closed k b)) b in
    let second : Keeps b c = either_has (λ x. Keeps b x) node.quotes _ _ (both b (quotes_closed k b) _ (closed_quotes_keep k b) (pulling_keeps k (quotes_closed k b))) (keeps b) in
    let le_c : h ≤ length c.formats = omega (arith, first.formats, second.formats) in
    let some_c : 0 < length c.frames = omega (arith, first.frames, second.frames) in
    let third = elem_closes h node.look.display node.meta c le_c some_c in
    let d = closed_elem h node.look.display node.meta c in
    let le_d : h ≤ length d.formats = omega (arith, third.formats) in
    let some_d : 0 < length d.frames = omega (arith, first.frames, second.frames, third.frames) in
    let fourth = suffix_closes k node.look.affixes.suffix h (length (term_text node.look.affixes.prefix)) d le_d some_d in
    (fourth.formats, omega (arith, first.frames, second.frames, third.frames, fourth.frames))

node_keeps : (k : Lookup) (node : NodeValue) (a b : State) → Keeps (node_begun k node a) b → Keeps a (node_ended k node (length a.formats) b)
node_keeps k node a b inside =
    let opens = node_opens k node a in
    let le : length a.formats ≤ length b.formats = omega (arith, opens.formats, inside.formats) in
    let some : 1 < length b.frames = omega (arith, opens.frames, inside.frames) in
    let ends = node_closes k node (length a.formats) b le some in
    record { formats = ends.0; frames = omega (arith, opens.frames, inside.frames, ends.1) }

mutual
  part_keeps : (k : Lookup) (p : Part) (a : State) → Keeps a (part_written k p a)
  part_keeps k (leaf_part leaf) a = leaf_keeps k leaf a
  part_keeps k (node_part node ps) a = node_keeps k node a _ (joined_keep k node.delimiter ps (node_begun k node a))

  joined_keep : (k : Lookup) (d : Option (List ℕ)) (ps : Parts) (a : State) → Keeps a (joined_written k d ps a)
  joined_keep k d no_parts a = keeps a
  joined_keep k d (part p ps) a = both a (part_written k p a) _ (part_keeps k p a) (rest_keep k d ps (part_written k p a))

  rest_keep : (k : Lookup) (d : Option (List ℕ)) (ps : Parts) (a : State) → Keeps a (rest_written k d ps a)
  rest_keep k d no_parts a = keeps a
  rest_keep k d (part p ps) a =
      let b = delimiter_pushed k d a in
      let c = part_written k p b in
      both a b _ (delimiter_keeps k d a) (both b c _ (part_keeps k p b) (rest_keep k d ps c))

-- writing a layout's parts leaves as many formats and frames as there were
pub parts_keep : (k : Lookup) (ps : List Part) (a : State) → Keeps a (parts_written k ps a)
unfolding parts_written
parts_keep k ps a = joined_keep k None (parts_of ps) a
