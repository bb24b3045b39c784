-- The text of HTML, and of the pieces that are still to be written.
use Rattle.std.proofs.Common.{◌≡◌, ℕ, ◌+◌, ◌<◌, ◌≤◌, Bool, true, false, List, [], ◌∷◌, ◌++◌, map, reverse, length, drop, get_or, sym, ap, ◌∙◌, append-nil}
use Rattle.std.specs.Prelude.{Result, Ok, Err, OnOk, IfOk, if◌then◌else◌, string_bytes}
use Rattle.std.specs.Str.{chars}
use Rattle.std.proofs.lemmas.List.{at_drop_all, at_drop_more, map-append, reverse-append}
use lib.Utf8.{encodes}
use Rattle.cite_pieces.specs.declared.piece.Piece.{Piece}
use Rattle.cite_pieces.specs.declared.piece.Piece.TheVariants.{Open, Close}
use Rattle.cite_pieces.specs.declared.piece.Wrap.{Wrap}
use Rattle.cite_texts.specs.declared.quotes.QuoteMarks.{QuoteMarks}
use Rattle.write_html.specs.Page.{are_quotes, open_quotes, with_characters, with_pieces, with_pieces_in}
use Rattle.write_html.specs.Shown.{base, in_line, inside, is_quotes, shown, spoken}
use Rattle.write_html.specs.Text.{text_in}
use Rattle.write_html.specs.declared.html.OpenWrap.{OpenWrap}
use Rattle.write_html.specs.declared.html.Page.{Page}

pub on_ok_map : {A E P Q : Type 0} (r : Result A E) → (P → Q) → OnOk r P → OnOk r Q
on_ok_map (Ok x) f p = f p
on_ok_map (Err e) f p = tt

pub if_ok_map : {A E : Type 0} (P Q : A → Type 0) (r : Result A E) → ((a : A) → P a → Q a) → IfOk r P → IfOk r Q
if_ok_map P Q (Ok x) f p = f x p
if_ok_map P Q (Err e) f p = tt

pub same_continued : (old new : List ℕ) (was is : Bool) → new ≡ old → is ≡ was → (more : List ℕ) → new ++ encodes (in_line is more) ≡ old ++ encodes (in_line was more)
same_continued old new was is e f more =
    ap (λ t. t ++ encodes (in_line is more)) e ∙ ap (λ b. old ++ encodes (in_line b more)) f

-- ---- the characters of a text

pub text_step : (before between after : List ℕ → List ℕ) (cs : List ℕ) (n c : ℕ) → (n < length cs) × (c ≡ get_or cs n c) → ((m : List ℕ) → after m ≡ between (base c ∷ m)) → ((m : List ℕ) → between (map base (drop n cs) ++ m) ≡ before (map base cs ++ m)) → (m : List ℕ) → after (map base (drop (n + 1) cs) ++ m) ≡ before (map base cs ++ m)
text_step before between after cs n c h step so_far m =
    let e : map base (drop n cs) ≡ base c ∷ map base (drop (n + 1) cs) =
    at_drop_more (map base) cs n c h.0 ∙ ap (λ x. base x ∷ map base (drop (n + 1) cs)) (sym h.1) in
    step (map base (drop (n + 1) cs) ++ m) ∙ (ap (λ xs. between (xs ++ m)) (sym e) ∙ so_far m)

pub text_end : (before after : List ℕ → List ℕ) (cs : List ℕ) (n : ℕ) → length cs ≤ n → ((m : List ℕ) → after (map base (drop n cs) ++ m) ≡ before (map base cs ++ m)) → (m : List ℕ) → after m ≡ before (map base cs ++ m)
text_end before after cs n h so_far m =
    ap (λ xs. after (xs ++ m)) (sym (at_drop_all (map base) cs n h)) ∙ so_far m

-- ---- pieces

pub inside_is : (marks given : QuoteMarks) → given.«open» ≡ marks.inner_open → given.close ≡ marks.inner_close → given.inner_open ≡ marks.«open» → given.inner_close ≡ marks.close → given ≡ inside marks
inside_is marks given a b c d = λ i. record { «open» = a i; close = b i; inner_open = c i; inner_close = d i }

pub are_quotes-push : (ws : List OpenWrap) (w : OpenWrap) → are_quotes (ws ++ w ∷ []) ≡ open_quotes w ∷ are_quotes ws
are_quotes-push ws w =
    ap reverse (map-append open_quotes ws (w ∷ [])) ∙ reverse-append (map open_quotes ws) (open_quotes w ∷ [])

pub text_piece : (old new : Page) (text : List ℕ) → new.marks ≡ old.marks → new.wraps ≡ old.wraps → ((m : List ℕ) → with_characters new m ≡ with_characters old (map base (chars text) ++ m)) → (more : List Piece) → with_pieces new more ≡ with_characters old (map base (chars text ++ spoken old.marks (are_quotes old.wraps.items) more))
text_piece old new text e f h more =
    let rest : List ℕ = spoken old.marks (are_quotes old.wraps.items) more in
    ap (λ m. with_characters new (map base (spoken m (are_quotes new.wraps.items) more))) e
    ∙ (ap (λ ws. with_characters new (map base (spoken old.marks (are_quotes ws.items) more))) f
    ∙ (h (map base rest) ∙ ap (with_characters old) (sym (map-append base (chars text) rest))))

pub quotes_begun : (old new : Page) (wrap : Wrap) → is_quotes wrap ≡ true → new.marks ≡ inside old.marks → ((m : List ℕ) → with_characters new m ≡ with_characters old (map base (chars old.marks.«open».now) ++ m)) → (more : List Piece) → with_pieces_in new (true ∷ are_quotes old.wraps.items) more ≡ with_pieces old (Open wrap ∷ more)
quotes_begun old new wrap q e h more =
    let around : List Bool = are_quotes old.wraps.items in
    let rest : List ℕ = spoken (inside old.marks) (true ∷ around) more in
    ap (λ m. with_characters new (map base (spoken m (true ∷ around) more))) e
    ∙ (h (map base rest)
    ∙ (ap (with_characters old) (sym (map-append base (chars old.marks.«open».now) rest))
    ∙ ap (λ b. with_characters old (map base (if b then chars old.marks.«open».now ++ rest else spoken old.marks (false ∷ around) more))) (sym q)))

pub other_begun : (old new : Page) (wrap : Wrap) → is_quotes wrap ≡ false → new.marks ≡ old.marks → ((m : List ℕ) → with_characters new m ≡ with_characters old m) → (more : List Piece) → with_pieces_in new (false ∷ are_quotes old.wraps.items) more ≡ with_pieces old (Open wrap ∷ more)
other_begun old new wrap q e h more =
    let around : List Bool = are_quotes old.wraps.items in
    ap (λ m. with_characters new (map base (spoken m (false ∷ around) more))) e
    ∙ (h (map base (spoken old.marks (false ∷ around) more))
    ∙ ap (λ b. with_characters old (map base (if b then chars old.marks.«open».now ++ spoken (inside old.marks) (true ∷ around) more else spoken old.marks (false ∷ around) more))) (sym q))

known_last : (ws us : List OpenWrap) (w : OpenWrap) (b : Bool) → ws ≡ us ++ w ∷ [] → open_quotes w ≡ b → are_quotes ws ≡ b ∷ are_quotes us
known_last ws us w b e o =
    ap are_quotes e ∙ (are_quotes-push us w ∙ ap (λ q. q ∷ are_quotes us) o)

pub quotes_closed : (old new : Page) (us : List OpenWrap) (w : OpenWrap) → old.wraps.items ≡ us ++ w ∷ [] → open_quotes w ≡ true → new.wraps.items ≡ us → new.marks ≡ inside old.marks → ((m : List ℕ) → with_characters new m ≡ with_characters old (map base (chars old.marks.inner_close.now) ++ m)) → (more : List Piece) → with_pieces new more ≡ with_pieces old (Close ∷ more)
quotes_closed old new us w e o f g h more =
    let rest : List ℕ = spoken (inside old.marks) (are_quotes us) more in
    ap (λ ws. with_characters new (map base (spoken new.marks (are_quotes ws) more))) f
    ∙ (ap (λ m. with_characters new (map base (spoken m (are_quotes us) more))) g
    ∙ (h (map base rest)
    ∙ (ap (with_characters old) (sym (map-append base (chars old.marks.inner_close.now) rest))
    ∙ ap (λ q. with_characters old (map base (spoken old.marks q (Close ∷ more)))) (sym (known_last old.wraps.items us w true e o)))))

pub other_closed : (old new : Page) (us : List OpenWrap) (w : OpenWrap) → old.wraps.items ≡ us ++ w ∷ [] → open_quotes w ≡ false → new.wraps.items ≡ us → new.marks ≡ old.marks → ((m : List ℕ) → with_characters new m ≡ with_characters old m) → (more : List Piece) → with_pieces new more ≡ with_pieces old (Close ∷ more)
other_closed old new us w e o f g h more =
    ap (λ ws. with_characters new (map base (spoken new.marks (are_quotes ws) more))) f
    ∙ (ap (λ m. with_characters new (map base (spoken m (are_quotes us) more))) g
    ∙ (h (map base (spoken old.marks (are_quotes us) more))
    ∙ ap (λ q. with_characters old (map base (spoken old.marks q (Close ∷ more)))) (sym (known_last old.wraps.items us w false e o))))

pub none_closed : (old : Page) → old.wraps.items ≡ [] → (more : List Piece) → with_pieces old more ≡ with_pieces old (Close ∷ more)
none_closed old e more =
    ap (λ ws. with_characters old (map base (spoken old.marks (are_quotes ws) more))) e
    ∙ ap (λ ws. with_characters old (map base (spoken old.marks (are_quotes ws) (Close ∷ more)))) (sym e)

-- ---- a stream

pub piece_step : (old new : Page) (ps : List Piece) (n : ℕ) (piece : Piece) (all : List ℕ) → n < length ps → piece ≡ get_or ps n piece → ((more : List Piece) → with_pieces new more ≡ with_pieces old (piece ∷ more)) → with_pieces old (drop n ps) ≡ all → with_pieces new (drop (n + 1) ps) ≡ all
piece_step old new ps n piece all h e step so_far =
    step (drop (n + 1) ps)
    ∙ (ap (λ p. with_pieces old (p ∷ drop (n + 1) ps)) e
    ∙ (sym (at_drop_more (with_pieces old) ps n piece h) ∙ so_far))

pub page_begun : (page : Page) (pieces : List Piece) (marks : QuoteMarks) → string_bytes page.markup.text ≡ [] → page.markup.takes_space ≡ false → page.wraps.items ≡ [] → page.marks ≡ marks → with_pieces page pieces ≡ shown marks pieces
page_begun page pieces marks e f g h =
    ap (λ t. text_in t ++ encodes (in_line page.markup.takes_space (map base (spoken page.marks (are_quotes page.wraps.items) pieces)))) e
    ∙ (ap (λ b. encodes (in_line b (map base (spoken page.marks (are_quotes page.wraps.items) pieces)))) f
    ∙ (ap (λ ws. encodes (in_line false (map base (spoken page.marks (are_quotes ws) pieces)))) g
    ∙ ap (λ m. encodes (in_line false (map base (spoken m [] pieces)))) h))

pub page_ended : (page : Page) → with_pieces page [] ≡ text_in (string_bytes page.markup.text)
page_ended page = append-nil (text_in (string_bytes page.markup.text))
