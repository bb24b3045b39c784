-- Sections: whether they give a part, and under which names they are known.
use Rattle.std.proofs.Common.{◌≡◌, ℕ, Bool, true, false, cond, not, List, [], ◌∷◌, length, refl, ap, sym, subst, ◌∙◌, eqb}
use Rattle.std.proofs.Math.Dec.{eqb-suc-zero}
use Rattle.std.proofs.lemmas.List.{length-map}
use Rattle.std.specs.Prelude.{Result, IfOk}
use Rattle.std.specs.declared.alloc.AllocError.{AllocError}
use Rattle.value_styles.specs.Element.{Elements, Macro}
use Rattle.value_sources.specs.declared.formatting.StyleFormatting.{StyleFormatting}
use Rattle.layout_picking.specs.declared.notes.Form.{Form}
use Rattle.layout_picking.specs.declared.notes.Notes.{Notes}
use Rattle.layout_picking.specs.declared.pieces.Piece.{Piece}
use Rattle.csl_writing.specs.declared.section.Section as declared
use Rattle.layout_picking.specs.Env.{Env}
use Rattle.layout_picking.specs.Pieces.{Part, leaf_part, node_part, tokens}
use Rattle.layout_picking.specs.PiecesView.{token_of, tokens_of}
use Rattle.csl_writing.specs.SectionView.{IsSection}
use Rattle.layout_picking.specs.Conditions.{is_repeated}
use Rattle.csl_writing.specs.Subject.{Subject, as_different}
use Rattle.csl_writing.specs.Sections.{Section, no_section, picked_section, citation_section, citation_anew, has_parts, shown_or}

-- parts have tokens, and nothing else has
tokens_tell : (ps : List Part) → not (eqb (length (tokens ps)) 0) ≡ has_parts ps
tokens_tell [] = refl
tokens_tell (leaf_part leaf ∷ ps) = ap not (eqb-suc-zero _)
tokens_tell (node_part node inner ∷ ps) = ap not (eqb-suc-zero _)

pub pieces_tell : (is_empty : Bool) (n : ℕ) (items : List Piece) (ps : List Part)
    → is_empty ≡ eqb n 0 → n ≡ length items → tokens_of items ≡ tokens ps → not is_empty ≡ has_parts ps
pieces_tell is_empty n items ps e l t =
    ap not (e ∙ ap (λ k. eqb k 0) (l ∙ sym (length-map items token_of) ∙ ap length t)) ∙ tokens_tell ps

-- the same section, read in other words
pub section_in : (r : Result declared.Section AllocError) (f : StyleFormatting) (a b : Env) (ms ns : List Macro) (ds es : Elements) (n : Notes)
    → a ≡ b → ms ≡ ns → ds ≡ es
    → IfOk r (λ s. IsSection s (picked_section f a ms ds n)) → IfOk r (λ s. IsSection s (picked_section f b ns es n))
section_in r f a b ms ns ds es n e m d = subst (λ x. IfOk r (λ s. IsSection s x)) (λ i. picked_section f (e i) (m i) (d i) n)

pub section_at : (r : Result declared.Section AllocError) (a b : Section)
    → a ≡ b → IfOk r (λ s. IsSection s a) → IfOk r (λ s. IsSection s b)
section_at r a b e h = subst (λ x. IfOk r (λ s. IsSection s x)) e h

-- a section that has parts is the one that is shown
pub first_shown : (f : Notes → Section) (b : Section) (s : declared.Section) (m n : Notes) (t : Bool)
    → m ≡ n → IsSection s (f m) → ((x : Section) → IsSection s x → t ≡ has_parts x.picked.parts) → t ≡ true
    → IsSection s (shown_or (f n) b)
first_shown f b s m n t e h tells is_true =
    let here : IsSection s (f n) = subst (λ x. IsSection s (f x)) e h in
    let shows : true ≡ has_parts (f n).picked.parts = sym is_true ∙ tells (f n) here in
    subst (λ x. IsSection s (cond x (f n) b)) shows here

-- where it has none, the other one is
pub other_shown : (f : Notes → Section) (b : Section) (s : declared.Section) (r : Result declared.Section AllocError) (m n : Notes) (t : Bool)
    → m ≡ n → IsSection s (f m) → ((x : Section) → IsSection s x → t ≡ has_parts x.picked.parts) → t ≡ false
    → IfOk r (λ s. IsSection s b) → IfOk r (λ s. IsSection s (shown_or (f n) b))
other_shown f b s r m n t e h tells is_false other =
    let here : IsSection s (f n) = subst (λ x. IsSection s (f x)) e h in
    let lacks : false ≡ has_parts (f n).picked.parts = sym is_false ∙ tells (f n) here in
    subst (λ x. IfOk r (λ s. IsSection s (cond x (f n) b))) lacks other

-- a cite that repeats another, read as if it did not
pub repeated_anew : (cite different : Subject) (form : Form) (n : Notes) (r : Result declared.Section AllocError) (t : Bool)
    → t ≡ is_repeated cite.cite.ibid → t ≡ true → different ≡ as_different cite
    → IfOk r (λ s. IsSection s (citation_section different form n)) → IfOk r (λ s. IsSection s (citation_anew cite form n))
repeated_anew cite different form n r t tells is_true e h =
    subst (λ x. IfOk r (λ s. IsSection s (cond x (citation_section (as_different cite) form n) (no_section n)))) (sym is_true ∙ tells)
    (subst (λ x. IfOk r (λ s. IsSection s (citation_section x form n))) e h)

pub other_anew : (cite : Subject) (form : Form) (n : Notes) (s : declared.Section) (t : Bool)
    → t ≡ is_repeated cite.cite.ibid → t ≡ false → IsSection s (no_section n) → IsSection s (citation_anew cite form n)
other_anew cite form n s t tells is_false h =
    subst (λ x. IsSection s (cond x (citation_section (as_different cite) form n) (no_section n))) (sym is_false ∙ tells) h
