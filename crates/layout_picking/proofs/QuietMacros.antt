-- Macros that gave nothing, over plain data.
use Rattle.std.proofs.Common.{◌≡◌, ℕ, List, [], ◌∷◌, length, nat_le, Bool, true, false, cond, ◌&&◌, ◌||◌, Option, Some, None, is_some, IfSome, refl, sym, ap, ◌∙◌, subst, rules}
use Rattle.std.specs.Prelude.{nat_eq, bytes_eq}
use Rattle.std.specs.Cmp.{unsigned_Decides, booleans_Decides, both_tied, unsigned_ties}
use Rattle.std.specs.Cmp.Lexicographic.{slice_cmp, texts_ties}
use Rattle.std.specs.Ordering.{is_eq, nat_cmp, ordering_then}
use Rattle.value_sources.specs.Finds.{both, texts_find}
use Rattle.value_sources.specs.declared.names.NameDisambiguationProperties.{NameDisambiguationProperties}
use Rattle.value_styles.specs.Element.{Name}
use Rattle.layout_picking.specs.declared.held.Opened.{Opened}
use Rattle.layout_picking.specs.declared.notes.Called.{Called}
use Rattle.layout_picking.specs.declared.notes.Notes.{Notes}
use Rattle.layout_picking.specs.declared.notes.Suppressed.{Suppressed}
use Rattle.layout_picking.specs.declared.quiet.Seen.{Seen}
use Rattle.layout_picking.specs.contracts.notes.SuppressedPartialEq.TheImpl as suppressed_eq
use Rattle.layout_picking.specs.contracts.quiet.SeenPartialEq.TheImpl as seen_eq
use Rattle.driver_lookup.proofs.Equal.{usage_find}
use Rattle.layout_picking.specs.declared.quiet.QuietMacros.{QuietMacros}
use Rattle.layout_picking.specs.Nodes.{inside, remembered, is_empty_node, cut_back, closed_as, is_without_content, macro_closed, group_closed}
use Rattle.layout_picking.specs.Pieces.{Part}
use Rattle.layout_picking.specs.Picked.{Held, added, in_macro}
use Rattle.layout_picking.specs.Pick.{Call}
use Rattle.layout_picking.specs.Quiet.{seen, told, Keeps, GivesNothing, IsQuiet, IsOpened}
use Rattle.layout_picking.proofs.Tokens.{is_filled}
use Rattle.layout_picking.proofs.Noted.{kept, kept-on}

suppressed_found : (a b : Suppressed) → (suppressed_eq.ghosts).eq a b ≡ true → a ≡ b
suppressed_found a b e =
    let p = both _ _ e in
    let q = both _ _ p.1 in
    λ i. record { author = (booleans_Decides a.author b.author).0 p.0 i; editor = (booleans_Decides a.editor b.editor).0 q.0 i; translator = (booleans_Decides a.translator b.translator).0 q.1 i }

-- the derived test of what is seen finds what is equal
pub seen_found : (a b : Seen) → (seen_eq.ghosts).eq a b ≡ true → a ≡ b
seen_found a b e =
    let p = both _ _ e in
    let q = both _ _ p.1 in
    let r = both _ _ q.1 in
    let s = both _ _ r.1 in
    λ i. record {
      first_date = (booleans_Decides a.first_date b.first_date).0 p.0 i;
      suppressed = suppressed_found a.suppressed b.suppressed q.0 i;
      checked_disambiguate = (booleans_Decides a.checked_disambiguate b.checked_disambiguate).0 r.0 i;
      has_first_name = (booleans_Decides a.has_first_name b.has_first_name).0 s.0 i;
      usage = usage_find.equal a.usage b.usage s.1 i;
    }

-- forms that are kept, and as many as before, are the same
forms_same : (a b : Option NameDisambiguationProperties) → is_some a ≡ is_some b → ((p : NameDisambiguationProperties) → a ≡ Some p → b ≡ Some p) → a ≡ b
forms_same None None e h = refl
forms_same (Some p) b e h = sym (h p refl)
forms_same None (Some q) e h = absurd (cc)

-- notes of which the same is seen, and whose forms are kept, are the same
pub same_notes : (n m : Notes) → seen n ≡ seen m → Keeps n m → n ≡ m
same_notes n m e h =
    let forms = forms_same n.first_name m.first_name (ap (λ (s : Seen). s.has_first_name) e) h in
    λ i. record {
      first_date = (e i).first_date;
      suppressed = (e i).suppressed;
      checked_disambiguate = (e i).checked_disambiguate;
      first_name = forms i;
      usage = (e i).usage;
    }

-- what is known of a macro, where no more is noted
pub known : (q : QuietMacros) (n : Notes) (name : Name) (depth : ℕ) (o : Option Called) → o ≡ told q name depth → q.at ≡ seen n
    → IfSome o (λ c. (call : ℕ → Call) → IsQuiet call q n → GivesNothing (call depth name) c n)
known q n name depth None e at = search rules
known q n name depth (Some c) e at = λ call h.
    let same = same_notes h.0 n (sym h.1 ∙ at) h.2 in
    subst (λ m. GivesNothing (call depth name) c m) same (h.3 name depth c (sym e))

-- a name and a depth are found by their order where both are equal
pub named_at : (name m : Name) (depth d : ℕ) → is_eq (ordering_then (slice_cmp nat_cmp name m) (nat_cmp depth d)) ≡ bytes_eq name m && nat_eq depth d
named_at name m depth d =
    sym (both_tied (bytes_eq name m) (nat_eq depth d) (slice_cmp nat_cmp name m) (nat_cmp depth d) (texts_ties name m) (unsigned_ties depth d))

-- one macro more
pub one_more : (call : ℕ → Call) (q more : QuietMacros) (n : Notes) (name : Name) (depth : ℕ) (c : Called)
    → IsQuiet call q n → q.at ≡ seen n → more.at ≡ q.at → ((m : Name) (d : ℕ) → told more m d ≡ cond (bytes_eq name m && nat_eq depth d) (Some c) (told q m d))
    → GivesNothing (call depth name) c n → IsQuiet call more n
one_more call q more n name depth c h at same adds quiet =
    (n, same ∙ at, kept n, λ m d x e. by m d x (bytes_eq name m && nat_eq depth d) refl (sym (adds m d) ∙ e))
  where
    old : h.0 ≡ n
    old = same_notes h.0 n (sym h.1 ∙ at) h.2

    by : (m : Name) (d : ℕ) (x : Called) (b : Bool) → b ≡ bytes_eq name m && nat_eq depth d → cond b (Some c) (told q m d) ≡ Some x → GivesNothing (call d m) x n
    by m d x true e f =
        let p = both _ _ (sym e) in
        let named : name ≡ m = texts_find.equal name m p.0 in
        let deep : depth ≡ d = (unsigned_Decides depth d).0 p.1 in
        let is : c ≡ x = cc in
        λ node. (λ i. call (sym deep i) (sym named i) node n) ∙ quiet node ∙ (λ i. record { parts = []; called = is i; noted = n })
    by m d x false e f = subst (λ k. GivesNothing (call d m) x k) old (h.3 m d x f)

-- what is quiet stays so while forms are kept
pub quiet_on : (call : ℕ → Call) (q : QuietMacros) (n m : Notes) → IsQuiet call q n → Keeps n m → IsQuiet call q m
quiet_on call q n m h k = (h.0, h.1, kept-on h.0 n m h.2 k, h.3)

-- a macro that is closed without a piece, where nothing new is noted
pub closed_quiet : (call : ℕ → Call) (name : Name) (depth : ℕ) (before : Seen) (o : Opened) (h : Held) → IsOpened call name depth before o h
    → is_empty_node o h ≡ true → before ≡ seen h.noted → GivesNothing (call depth name) h.called h.noted
closed_quiet call name depth before o h is empty now node =
    let s = is.outside in
    let held = is.holds in
    let noted : h.noted ≡ (is.inner s.noted).noted = ap (λ (x : Held). x.noted) held in
    let same : s.noted ≡ h.noted = same_notes s.noted h.noted (sym is.noted ∙ now) (subst (Keeps s.noted) (sym noted) is.keeps) in
    let none : is_empty_node (remembered s) (added (is.inner s.noted) (inside is.node s)) ≡ true = (λ i. is_empty_node (sym is.opened i) (sym held i)) ∙ empty in
    let parts : (is.inner s.noted).parts ≡ [] = by (is.inner s.noted).parts none in
    ap (λ n. call depth name node n) (sym same)
    ∙ is.means node s.noted
    ∙ (λ i. in_macro node (record { parts = parts i; called = (is.inner s.noted).called; noted = (is.inner s.noted).noted }))
    ∙ (λ i. record { parts = []; called = (sym held i).called; noted = sym noted i })
  where
    by : (ps : List Part) → nat_le (length (added (record { parts = ps; called = (is.inner is.outside.noted).called; noted = (is.inner is.outside.noted).noted }) (inside is.node is.outside)).tokens) (remembered is.outside).inside ≡ true → ps ≡ []
    by [] e = refl
    by (p ∷ ps) e = let f = is_filled is.outside.tokens is.node p ps in absurd (cc)

-- a node that is closed notes nothing
pub macro_noted : (o : Opened) (h : Held) → (macro_closed o h).noted ≡ h.noted
macro_noted o h = by (is_empty_node o h)
  where
    by : (b : Bool) → (cond b (cut_back o h) (closed_as h.called o h)).noted ≡ h.noted
    by true = refl
    by false = refl

pub group_noted : (o : Opened) (h : Held) → (group_closed o h).noted ≡ h.noted
group_noted o h = by (is_without_content h.called || is_empty_node o h)
  where
    by : (b : Bool) → (cond b (cut_back o h) (closed_as Called.Filled o h)).noted ≡ h.noted
    by true = refl
    by false = refl
