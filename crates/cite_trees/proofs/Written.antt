-- The text of a tree that is being built.
use Rattle.std.proofs.Common.{◌≡◌, ℕ, List, [], ◌∷◌, ◌++◌, length, refl, sym, ap, ◌∙◌, append-nil, append_assoc, arith}
use Rattle.std.specs.Prelude.{Result, Ok, Err, OnOk, string_bytes}
use Rattle.std.proofs.lemmas.Grind.{flat_map-append}
use Rattle.value_trees.specs.Child.{Child}
use Rattle.value_trees.specs.Tree.{child_plain, plain}
use Rattle.cite_pieces.specs.declared.piece.Piece.{Piece}
use Rattle.cite_pieces.specs.declared.piece.Piece.TheVariants.{Text, Open, Close}
use Rattle.cite_trees.specs.Plain.{before_all, before_opened, texts}
use Rattle.cite_trees.specs.declared.trees.Opened.{Opened}

pub plain-push : (cs : List Child) (c : Child) → plain (cs ++ c ∷ []) ≡ plain cs ++ child_plain c
plain-push [] c = append-nil (child_plain c)
plain-push (d ∷ cs) c = ap (λ t. child_plain d ++ t) (plain-push cs c) ∙ sym (append_assoc (child_plain d) (plain cs) (child_plain c))

pub text_ended : {E : Type 0} (r : Result (Unit {0}) E) (new old : List Child) (c : Child) (text : List ℕ) → OnOk r (new ≡ old ++ c ∷ []) → child_plain c ≡ text → OnOk r (plain new ≡ plain old ++ text)
text_ended (Ok x) new old c text e f = ap plain e ∙ (plain-push old c ∙ ap (λ t. plain old ++ t) f)
text_ended (Err x) new old c text e f = tt

pub texts-append : (ps qs : List Piece) → texts (ps ++ qs) ≡ texts ps ++ texts qs
texts-append [] qs = refl
texts-append (Text t ∷ ps) qs = ap (λ x. string_bytes t ++ x) (texts-append ps qs) ∙ sym (append_assoc (string_bytes t) (texts ps) (texts qs))
texts-append (Open w ∷ ps) qs = texts-append ps qs
texts-append (Close ∷ ps) qs = texts-append ps qs

pub before-push : (os : List Opened) (o : Opened) → before_all (os ++ o ∷ []) ≡ before_all os ++ before_opened o
before-push os o = flat_map-append before_opened os (o ∷ []) ∙ ap (λ t. before_all os ++ t) (append-nil (before_opened o))

-- a text is pushed behind the text
pub text_pushed : (before children text more new : List ℕ) → new ≡ text ++ more → before ++ (children ++ new) ≡ before ++ (children ++ text) ++ more
text_pushed before children text more new e =
    ap (λ t. before ++ (children ++ t)) e
    ∙ (ap (λ t. before ++ t) (sym (append_assoc children text more)) ∙ sym (append_assoc before (children ++ text) more))

-- the last wrap that is open is closed
pub wrap_closed : (all us new : List Opened) (o : Opened) (text was : List ℕ) → all ≡ us ++ o ∷ [] → new ≡ us → text ≡ before_opened o ++ was → before_all new ++ text ≡ before_all all ++ was
wrap_closed all us new o text was e f g =
    ap (λ os. before_all os ++ text) f
    ∙ (ap (λ t. before_all us ++ t) g
    ∙ (sym (append_assoc (before_all us) (before_opened o) was)
    ∙ (ap (λ t. t ++ was) (sym (before-push us o)) ∙ ap (λ os. before_all os ++ was) (sym e))))

-- no wrap is open
pub all_closed : (opened : List Opened) (text all : List ℕ) → length opened ≡ 0 → before_all opened ++ text ≡ all → text ≡ all
all_closed [] text all e h = h
all_closed (o ∷ os) text all e h = absurd (omega (arith, e))
