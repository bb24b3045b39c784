-- Carrying out a plan step by step.
use Rattle.std.proofs.Common.{◌≡◌, ℕ, ◌≤◌, ◌∷◌, ◌++◌, [], List, length, codes, refl, ap, sym, subst, ◌∙◌, arith}
use Rattle.std.specs.Prelude.{Result, IfOk, Option}
use Rattle.std.specs.declared.alloc.AllocError.{AllocError}
use Rattle.layout_picking.specs.declared.notes.Notes.{Notes}
use Rattle.csl_writing.specs.declared.section.Section as declared
use Rattle.driver_lookup.specs.declared.state.CollapseVerdict.{CollapseVerdict}
use Rattle.driver_lookup.specs.Lookup.{Lookup}
use Rattle.csl_writing.specs.PartsWritten.{parts_written}
use Rattle.layout_picking.specs.Pieces.{Part, tokens}
use Rattle.layout_picking.specs.PiecesView.{tokens_of}
use Rattle.csl_writing.specs.Plans.{PlanStep, plan_of, text_steps, gap_steps, rest_section, enclosing, prose_plan}
use Rattle.csl_writing.specs.SectionView.{IsSection}
use Rattle.csl_writing.specs.Sections.{Section, author_section}
use Rattle.csl_writing.specs.StepsWritten.{steps_written, IsCarriedOut, IsWritten}
use Rattle.csl_writing.specs.Subject.{Subject}
use Rattle.layout_context.specs.WritingState.{State, formatted, unformatted}
use Rattle.csl_writing.proofs.KeptHeights.{parts_keep}
use Rattle.csl_writing.proofs.FormatHeights.{formats-formatted, frames-formatted, formats-unformatted, frames-unformatted}

-- a format, the pieces, and the formats cut back
pub section_carried : (k : Lookup) (s : declared.Section) (h : ℕ) (a b c d : State)
    → h ≡ length a.formats → b ≡ formatted s.formatting a
    → ((ps : List Part) → tokens_of s.picking.pieces.items ≡ tokens ps → c ≡ parts_written k ps b)
    → d ≡ unformatted h c
    → (value : Section) → IsSection s value → IsCarriedOut k (plan_of value) a d s.picking.notes
section_carried k s h a b c d e begun done cut value is =
    let ps = value.picked.parts in
    let all : c ≡ parts_written k ps b = done ps is.pieces in
    let kept = parts_keep k ps b in
    let formats : length c.formats ≡ length b.formats = ap (λ x. length x.formats) all ∙ kept.formats in
    let frames : length c.frames ≡ length b.frames = ap (λ x. length x.frames) all ∙ kept.frames in
    let grown : length a.formats ≤ length b.formats = subst (λ x. length a.formats ≤ length x.formats) (sym begun) (formats-formatted s.formatting a) in
    let high : h ≤ length c.formats = omega arith in
    record {
      written = cut ∙ ap (λ x. unformatted x c) e
          ∙ ap (λ x. unformatted (length a.formats) x) (all ∙ ap (λ x. parts_written k ps x) (begun ∙ ap (λ f. formatted f a) is.formatting));
      noted = is.notes;
      formats = ap (λ x. length x.formats) cut ∙ formats-unformatted h c high ∙ e;
      frames = ap (λ x. length x.frames) cut ∙ frames-unformatted h c ∙ frames ∙ ap (λ x. length x.frames) begun ∙ frames-formatted s.formatting a;
    }

steps_written-append : (k : Lookup) (xs ys : List PlanStep) (a : State) → steps_written k (xs ++ ys) a ≡ steps_written k ys (steps_written k xs a)
steps_written-append k [] ys a = refl
steps_written-append k (x ∷ xs) ys a = steps_written-append k xs ys _

-- steps behind steps
followed_by : (k : Lookup) (xs ys : List PlanStep) (a b c : State) → IsWritten k xs a b → IsWritten k ys b c → IsWritten k (xs ++ ys) a c
followed_by k xs ys a b c first then = record {
  written = then.written ∙ ap (λ x. steps_written k ys x) first.written ∙ sym (steps_written-append k xs ys a);
  formats = then.formats ∙ first.formats;
  frames = then.frames ∙ first.frames;
}

-- one section and nothing else
pub alone_carried : (k : Lookup) (f : Notes → Section) (s : declared.Section) (r : Result Notes AllocError) (m n : Notes) (a b : State)
    → m ≡ n → IsSection s (f m)
    → ((value : Section) → IsSection s value → IfOk r (IsCarriedOut k (plan_of value) a b))
    → IfOk r (IsCarriedOut k (plan_of (f n)) a b)
alone_carried k f s r m n a b e is done = done (f n) (subst (λ x. IsSection s (f x)) e is)

-- the author, what stands between, what encloses the rest, and the rest
pub prose_carried : (k : Lookup) (cite : Subject) (verdict : Option CollapseVerdict) (n m o : Notes) (s : declared.Section) (a b c d e f : State)
    → IsCarriedOut k (plan_of (author_section cite n)) a b m
    → IsWritten k (gap_steps cite.source.style.citation.layout) b c
    → IsWritten k (text_steps (enclosing cite.source.style cite.source.style.citation.layout.prefix (codes "("))) c d
    → IsSection s (rest_section cite verdict m)
    → ((value : Section) → IsSection s value → IsCarriedOut k (plan_of value) d e o)
    → IsWritten k (text_steps (enclosing cite.source.style cite.source.style.citation.layout.suffix (codes ")"))) e f
    → IsCarriedOut k (prose_plan cite verdict n) a f o
prose_carried k cite verdict n m o s a b c d e f author gap before is rest after =
    let section = rest_section cite verdict (author_section cite n).picked.noted in
    let here : IsSection s section = subst (λ x. IsSection s (rest_section cite verdict x)) author.noted is in
    let first : IsWritten k (plan_of (author_section cite n)).steps a b = record { written = author.written; formats = author.formats; frames = author.frames } in
    let last = rest section here in
    let second : IsWritten k (plan_of section).steps d e = record { written = last.written; formats = last.formats; frames = last.frames } in
    let tail = followed_by k (plan_of section).steps _ d e f second after in
    let middle = followed_by k _ _ b d f (followed_by k _ _ b c d gap before) tail in
    let all = followed_by k (plan_of (author_section cite n)).steps _ a b f first middle in
    record { written = all.written; noted = last.noted; formats = all.formats; frames = all.frames }
