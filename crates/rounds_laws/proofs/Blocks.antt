-- Where the style groups cites they stand in blocks.
use Rattle.std.proofs.Common.{◌≡◌, ℕ, suc, ◌+◌, ◌<◌, Bool, true, false, cond, ◌&&◌, ◌||◌, List, [], ◌∷◌, ◌++◌, Option, Some, None, length, map, refl, ap, sym, subst, ◌∙◌, true≢false, arith}
use Rattle.std.specs.Prelude.{AllPairs, filter, filter_map, if◌then◌else◌, is_none, is_some, zip}
use Rattle.std.specs.List.{cons_option, enumerate_from, flat_map, range_with_len}
use Rattle.std.specs.Option.{option_or}
use Rattle.std.proofs.Math.ListN.{length-map}
use Rattle.std.proofs.lemmas.List.{map-append}
use Rattle.std.proofs.lemmas.List.Elements.{filter-append}
use Rattle.driver_entries.specs.Entries.{place}
use Rattle.driver_entries.proofs.Once.{NoTwoEqual-distinct, NoTwoEqual-filter, without_gaps}
use Rattle.rounds_grouping.specs.BlockKeys.{BlockKey, is_named, key_of, same_key}
use Rattle.rounds_grouping.specs.Blocks.{block, block_index, block_keys, final_order, group_delimiter, grouped, grouped_cites, in_block, is_grouped, with_block}
use Rattle.rounds_grouping.specs.FinalOrder.{HasFinalOrder}
use Rattle.rounds_grouping.proofs.FinalOrders.{grouped-ordered}
use Rattle.rounds_grouping.proofs.KeyLaws.{key_laws}
use Rattle.rounds_grouping.proofs.OrderLaws.{ordered, together}
use Rattle.rounds_grouping.proofs.Whole.{final-permuted}
use Rattle.driver_passes.specs.Renders.{CiteRender, ItemRender}
use Rattle.value_styles.specs.Style.{CitationValue}
use Rattle.rounds_laws.specs.BlockLaws.{AreInBlocks, FormBlocks, begins_block, block_indexes, block_places}
use Rattle.rounds_laws.proofs.Laid.{AreKept, Laid, NonEmpty, blocks-laid, kept, laid-first, laid-index, laid-other, laid-same, laid_block}
use Rattle.rounds_laws.proofs.Rising.{below-pairs, first_place, firsts-rise, rise-numbered}

zip-append : {X Y : Type 0} (xs more : List X) (ys others : List Y) → length xs ≡ length ys → zip (xs ++ more) (ys ++ others) ≡ zip xs ys ++ zip more others
zip-append [] more [] others h = refl
zip-append [] more (y ∷ ys) others h = absurd (omega (arith, h))
zip-append (x ∷ xs) more [] others h = absurd (omega (arith, h))
zip-append (x ∷ xs) more (y ∷ ys) others h = ap (λ l. (x, y) ∷ l) (zip-append xs more ys others (omega (arith, h)))

map-same : {X Y : Type 0} (f g : X → Y) → ((x : X) → f x ≡ g x) → (xs : List X) → map f xs ≡ map g xs
map-same f g h [] = refl
map-same f g h (x ∷ xs) = λ i. h x i ∷ map-same f g h xs i

module _ {E P : Type 0} (delimiter : Option (List ℕ)) (there : is_none delimiter ≡ false) where
  -- of the others of a block none begins it
  none-begins : (i : Option ℕ) (cs : List (ItemRender E P)) → filter begins_block (map (with_block delimiter i) cs) ≡ []
  none-begins i [] = refl
  none-begins i (c ∷ cs) =
      let rest : List (ItemRender E P) = map (with_block delimiter i) cs in
      ap (λ b. cond b (with_block delimiter i c ∷ filter begins_block rest) (filter begins_block rest)) there ∙ none-begins i cs

  none-placed : (i : Option ℕ) (ps : List ℕ) (cs : List (ItemRender E P)) → filter (λ p. begins_block p.1) (zip ps (map (with_block delimiter i) cs)) ≡ []
  none-placed i [] [] = refl
  none-placed i [] (c ∷ cs) = refl
  none-placed i (p ∷ ps) [] = refl
  none-placed i (p ∷ ps) (c ∷ cs) =
      let rest : List (ℕ × ItemRender E P) = zip ps (map (with_block delimiter i) cs) in
      ap (λ b. cond b ((p, with_block delimiter i c) ∷ filter (λ q. begins_block q.1) rest) (filter (λ q. begins_block q.1) rest)) there ∙ none-placed i ps cs

  module _ (cites : List (ItemRender E P)) where
    abbrev index : BlockKey → Option ℕ
    index = block_index cites

    abbrev laid : BlockKey → List (ItemRender E P)
    laid = laid_block delimiter cites

    abbrev keys : List BlockKey
    keys = block_keys cites

    abbrev with_names : List BlockKey
    with_names = filter is_named keys

    -- the first of a block
    abbrev head : (key : BlockKey) → NonEmpty (block cites key) → ItemRender E P
    head key some = with_block None (index key) some.first.1

    whole : (key : BlockKey) (some : NonEmpty (block cites key)) → laid key ≡ head key some ∷ map (with_block delimiter (index key)) (map (λ p. p.1) some.rest)
    whole key some = ap (λ ws. in_block delimiter (index key) (map (λ p. p.1) ws)) some.is

    begins : (key : BlockKey) (some : NonEmpty (block cites key)) → filter begins_block (laid key) ≡ head key some ∷ []
    begins key some = ap (filter begins_block) (whole key some) ∙ ap (λ l. head key some ∷ l) (none-begins (index key) (map (λ p. p.1) some.rest))

    -- the indexes of blocks are those of their keys
    indexes : (ks : List BlockKey) → AreKept delimiter cites ks → block_indexes (flat_map laid ks) ≡ filter_map index ks
    indexes [] are = refl
    indexes (k ∷ ks) are =
        ap (filter_map (λ c. c.group))
        (filter-append begins_block (laid k) (flat_map laid ks) ∙ ap (λ l. l ++ filter begins_block (flat_map laid ks)) (begins k are.0))
        ∙ ap (cons_option (index k)) (indexes ks are.2)

    -- which count the keys with names
    counted : (ks : List BlockKey) → filter_map index ks ≡ map (λ k. place same_key k with_names) (filter is_named ks)
    counted [] = refl
    counted (k ∷ ks) = by (is_named k) (counted ks)
      where
        by : (b : Bool) → filter_map index ks ≡ map (λ k. place same_key k with_names) (filter is_named ks)
            → cons_option (if b then Some (place same_key k with_names) else None) (filter_map index ks) ≡ map (λ k. place same_key k with_names) (cond b (k ∷ filter is_named ks) (filter is_named ks))
        by true more = ap (λ l. place same_key k with_names ∷ l) more
        by false more = more

    -- 0, 1, 2 and so on
    count-up : block_indexes (grouped_cites delimiter cites) ≡ range_with_len 0 (length (block_indexes (grouped_cites delimiter cites)))
    count-up =
        let once = NoTwoEqual-filter same_key key_laws is_named keys (NoTwoEqual-distinct same_key key_laws (map (λ p. key_of p.0 p.1) (enumerate_from 0 cites))) in
        let are : block_indexes (grouped_cites delimiter cites) ≡ map (λ k. place same_key k with_names) with_names = indexes keys (kept delimiter cites) ∙ counted keys in
        let ranged : block_indexes (grouped_cites delimiter cites) ≡ range_with_len 0 (length with_names) =
        are ∙ map-same (λ k. place same_key k with_names) (λ k. 0 + place same_key k with_names) (λ k. omega arith) with_names ∙ without_gaps same_key key_laws 0 with_names once in
        let long : length (block_indexes (grouped_cites delimiter cites)) ≡ length with_names = ap length are ∙ length-map with_names (λ k. place same_key k with_names) in
        ranged ∙ ap (range_with_len 0) (sym long)

    -- the places of the firsts of blocks
    abbrev places : List (ℕ × ItemRender E P) → List ℕ
    places ws = map (λ p. p.0) ws

    as-long : (k : BlockKey) (some : NonEmpty (block cites k)) → length (places (block cites k)) ≡ length (laid k)
    as-long k some =
        let left = ap (λ ws. length (places ws)) some.is in
        let right = ap length (whole k some) in
        let a = length-map some.rest (λ p. p.0) in
        let b = length-map some.rest (λ p. p.1) in
        let c = length-map (map (λ p. p.1) some.rest) (with_block delimiter (index k)) in
        left ∙ ap suc (a ∙ sym b ∙ sym c) ∙ sym right

    abbrev stands : ℕ → ItemRender E P → ℕ × ItemRender E P
    stands n c = (n, c)

    placed : (k : BlockKey) (some : NonEmpty (block cites k)) → filter (λ p. begins_block p.1) (zip (places (block cites k)) (laid k)) ≡ stands (first_place (block cites k)) (head k some) ∷ []
    placed k some =
        (λ i. filter (λ p. begins_block p.1) (zip (places (some.is i)) (whole k some i)))
        ∙ ap (λ l. stands some.first.0 (head k some) ∷ l) (none-placed (index k) (places some.rest) (map (λ p. p.1) some.rest))
        ∙ ap (λ n. stands n (head k some) ∷ []) (sym (ap first_place some.is))

    all-placed : (ks : List BlockKey) → AreKept delimiter cites ks → block_places (places (flat_map (block cites) ks)) (flat_map laid ks) ≡ map (λ k. first_place (block cites k)) ks
    all-placed [] are = refl
    all-placed (k ∷ ks) are =
        let rest : List (ℕ × ItemRender E P) = flat_map (block cites) ks in
        ap (λ ps. block_places ps (laid k ++ flat_map laid ks)) (map-append (λ p. p.0) (block cites k) rest)
        ∙ ap (λ l. map (λ p. p.0) (filter (λ p. begins_block p.1) l)) (zip-append (places (block cites k)) (places rest) (laid k) (flat_map laid ks) (as-long k are.0))
        ∙ ap (map (λ p. p.0)) (filter-append (λ p. begins_block p.1) (zip (places (block cites k)) (laid k)) (zip (places rest) (flat_map laid ks)) ∙ ap (λ l. l ++ filter (λ p. begins_block p.1) (zip (places rest) (flat_map laid ks))) (placed k are.0))
        ∙ ap (λ l. first_place (block cites k) ∷ l) (all-placed ks are.2)

    rise : AllPairs (λ p q. p < q) (block_places (final_order cites) (grouped_cites delimiter cites))
    rise =
        subst (AllPairs (λ p q. p < q)) (sym (all-placed keys (kept delimiter cites)))
        (below-pairs (λ k. first_place (block cites k)) keys
        (firsts-rise same_key key_laws (λ p. key_of p.0 p.1) 0 (enumerate_from 0 cites) (rise-numbered 0 0 cites (omega arith))))

    are-laid : Laid delimiter None (grouped_cites delimiter cites)
    are-laid = blocks-laid delimiter cites None keys (kept delimiter cites) (λ n e. cc)

    pub in-blocks : AreInBlocks delimiter (final_order cites) (grouped_cites delimiter cites)
    in-blocks = record {
      first_begins = laid-first delimiter (grouped_cites delimiter cites) are-laid;
      other_begins = laid-other delimiter (grouped_cites delimiter cites) are-laid;
      same_after_delimiter = λ k next. (laid-same delimiter (grouped_cites delimiter cites) are-laid k next).0;
      in_order = rise;
      index_for_names = laid-index delimiter (grouped_cites delimiter cites) are-laid;
      same_index = λ k next. (laid-same delimiter (grouped_cites delimiter cites) are-laid k next).1;
      indexes_count = count-up;
    }

-- a style that groups cites has a delimiter for that
has-delimiter : (citation : CitationValue) → is_grouped citation ≡ true → is_none (group_delimiter citation) ≡ false
has-delimiter citation = by citation.cite_group_delimiter citation.layout.delimiter (is_some citation.collapse)
  where
    by : (own layout : Option (List ℕ)) (collapses : Bool) → is_some own || (collapses && is_some layout) ≡ true → is_none (option_or own layout) ≡ false
    by (Some d) layout collapses h = refl
    by None (Some d) true h = refl
    by None (Some d) false h = absurd (true≢false (sym h))
    by None None true h = absurd (true≢false (sym h))
    by None None false h = absurd (true≢false (sym h))

pub form-blocks : {E P : Type 0} (render : CiteRender E P) → FormBlocks render (grouped render)
form-blocks render = by (is_grouped render.request.style.citation) refl
  where
    by : (b : Bool) → is_grouped render.request.style.citation ≡ b
        → FormBlocks render (if b then record render { items = grouped_cites (group_delimiter render.request.style.citation) render.items } else render)
    by true e = record {
      final = record {
        final_order = final_order render.items;
        each_place_once = final-permuted render.items;
        cites_in_this_order = ordered render.items (group_delimiter render.request.style.citation);
        equal_names_are_adjacent = λ groups. together render.items;
        else_nothing_changes = λ isnt. absurd (true≢false (sym e ∙ isnt));
      };
      blocks = λ groups. in-blocks (group_delimiter render.request.style.citation) (has-delimiter render.request.style.citation e) render.items;
    }
    by false e = record {
      final = subst (λ b. HasFinalOrder (is_grouped render.request.style.citation) render.items
          (if b then record render { items = grouped_cites (group_delimiter render.request.style.citation) render.items } else render).items) e (grouped-ordered render);
      blocks = λ groups. absurd (true≢false (sym groups ∙ e));
    }
