-- What is known of entries, one more cite.
use mathlib.Core.Bool.{or-false, or-true}
use Rattle.std.proofs.Common.{◌≡◌, ℕ, ◌+◌, ◌<◌, Bool, true, false, cond, ◌||◌, Some, None, Option, List, [], ◌∷◌, ◌++◌, length, map, reverse, take, get_or, refl, ap, sym, ◌∙◌}
use Rattle.std.specs.Prelude.{nat_eq, unwrap_or}
use Rattle.std.specs.HashMap.{HashMap, get}
use Rattle.std.specs.List.{enumerate_from, list_any}
use Rattle.std.specs.Map.{lookup}
use Rattle.std.specs.Option.{option_or}
use Rattle.std.specs.Cmp.{nat_eq_equiv}
use Rattle.std.proofs.lemmas.Bool.{eqb-true}
use Rattle.std.proofs.lemmas.List.{get_or_default, map-append, reverse-append}
use Rattle.std.proofs.lemmas.List.Folds.{list_any-append}
use Rattle.mentions_notes.specs.Known.{grown, known_at, known_by, known_with, notes_by, unknown}
use Rattle.mentions_notes.specs.Notes.{cites_entry, first_note, first_of, last_note, note_citing, notes_behind}
use Rattle.mentions_notes.specs.declared.notes.CiteNotes.{CiteNotes}
use Rattle.mentions_notes.specs.declared.notes.HandedCite.{HandedCite}
use Rattle.mentions_notes.specs.declared.notes.Known.{Known}
use Rattle.list_lemmas.proofs.Stepping.{made-next, next}

or-none : {X : Type 0} (o : Option X) → option_or o None ≡ o
or-none None = refl
or-none (Some x) = refl

first-push : {X : Type 0} (os : List (Option X)) (o : Option X) → first_of (os ++ o ∷ []) ≡ option_or (first_of os) o
first-push [] o = or-none o
first-push (None ∷ os) o = first-push os o
first-push (Some x ∷ os) o = refl

module _ (before : List HandedCite) (c : HandedCite) (e : ℕ) where
  notes-push : map (note_citing e) (before ++ c ∷ []) ≡ map (note_citing e) before ++ note_citing e c ∷ []
  notes-push = map-append (note_citing e) before (c ∷ [])

  pub known-push : known_by (before ++ c ∷ []) e ≡ known_with c e (known_by before e)
  known-push =
      (λ i. record {
        cited = list_any-append (cites_entry e) before (c ∷ []) i;
        first_note = (ap first_of notes-push ∙ first-push (map (note_citing e) before) (note_citing e c)) i;
        last_note = ap first_of (ap reverse notes-push ∙ reverse-append (map (note_citing e) before) (note_citing e c ∷ [])) i;
      })
      ∙ by (nat_eq e c.entry)
    where
      by : (b : Bool) → ◌≡◌ {A = Known}
          (record {
            cited = list_any (cites_entry e) before || (b || false);
            first_note = option_or (first_note e before) (cond b c.note None);
            last_note = option_or (cond b c.note None) (last_note e before);
          })
          (cond b (grown c (known_by before e)) (known_by before e))
      by true = λ i. record {
        cited = or-true (list_any (cites_entry e) before) i;
        first_note = option_or (first_note e before) c.note;
        last_note = option_or c.note (last_note e before);
      }
      by false = λ i. record {
        cited = or-false (list_any (cites_entry e) before) i;
        first_note = or-none (first_note e before) i;
        last_note = last_note e before;
      }

-- the same of the map
pub noted : {S : Type 0} (old new : HashMap ℕ Known S) (c : HandedCite) (before : Known) → ((q : ℕ) → get nat_eq new q ≡ cond (nat_eq c.entry q) (Some (grown c before)) (get nat_eq old q))
    → before ≡ known_at old c.entry → (e : ℕ) → known_at new e ≡ known_with c e (known_at old e)
noted {S = S} old new c before updated was e =
    ap (λ o. unwrap_or o unknown) (updated e) ∙ by (nat_eq c.entry e) refl
  where
    by : (b : Bool) → nat_eq c.entry e ≡ b → unwrap_or (cond b (Some (grown c before)) (get nat_eq old e)) unknown ≡ known_with c e (known_at old e)
    by true p =
        let same : c.entry ≡ e = eqb-true c.entry e p in
        ap (grown c) (was ∙ ap (known_at old) same) ∙ ap (λ b. cond b (grown c (known_at old e)) (known_at old e)) (sym (nat_eq_equiv.symm e c.entry ∙ p))
    by false p = ap (λ b. cond b (grown c (known_at old e)) (known_at old e)) (sym (nat_eq_equiv.symm e c.entry ∙ p))

pub known-none : {S : Type 0} (known : HashMap ℕ Known S) → known.entries ≡ [] → (e : ℕ) → known_at known e ≡ known_by [] e
known-none known empty e = ap (λ es. unwrap_or (lookup (nat_eq e) es) unknown) empty

-- the walk, one more cite
module _ {S : Type 0} (cites : List HandedCite) (k : ℕ) (m d : HandedCite) (known : HashMap ℕ Known S) (within : k < length cites) (here : m ≡ get_or cites k d)
    (so_far : (e : ℕ) → known_at known e ≡ known_by (take k cites) e) where
  stands : m ≡ get_or cites k m
  stands = here ∙ get_or_default cites k d m within

  pub known-next : (now : HashMap ℕ Known S) → ((e : ℕ) → known_at now e ≡ known_with m e (known_at known e)) → (e : ℕ) → known_at now e ≡ known_by (take (k + 1) cites) e
  known-next now more e =
      more e ∙ ap (known_with m e) (so_far e) ∙ sym (known-push (take k cites) m e) ∙ ap (λ xs. known_by xs e) (sym (next cites k m within stands))

  pub notes-next : (notes all : List CiteNotes) (before : Known) (n : CiteNotes) → notes ≡ map (λ p. notes_behind (take p.0 cites) p.1) (take k (enumerate_from 0 cites)) → before ≡ known_at known m.entry
      → n ≡ notes_by m before → all ≡ notes ++ n ∷ [] → all ≡ map (λ p. notes_behind (take p.0 cites) p.1) (take (k + 1) (enumerate_from 0 cites))
  notes-next notes all before n made was is pushed =
      pushed ∙ (λ i. made i ++ (is ∙ ap (notes_by m) (was ∙ so_far m.entry)) i ∷ [])
      ∙ sym (made-next cites k m within stands (λ p. notes_behind (take p.0 cites) p.1))
