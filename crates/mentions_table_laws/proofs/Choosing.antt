-- The condition holds exactly in mentions that tested it and read as another.
use Rattle.std.proofs.Common.{◌≡◌, ◌≢◌, ◌⊎◌, inl, inr, ℕ, ◌<◌, Bool, true, false, not, ◌&&◌, List, [], ◌∷◌, get_or, length, map, refl, ap, sym, subst, ◌∙◌, true≢false}
use Rattle.std.specs.Prelude.{All, Any, bytes_eq, nat_eq, ◌==◌}
use Rattle.std.specs.List.{list_any}
use Rattle.std.proofs.Math.Dec.{eqb-suc-zero}
use Rattle.std.proofs.lemmas.Bool.{and_from, and_parts, cases_eq, eqb-false, ne_eqb, not-true, not_from_false}
use Rattle.std.proofs.lemmas.List.Elements.{All-map}
use Rattle.std.proofs.lemmas.List.Folds.{Any-from_list_any, list_any-from_Any, list_any_at}
use Rattle.value_sources.specs.Finds.{texts_find}
use Rattle.mentions_names.proofs.Logic.{any-filter}
use Rattle.mentions_groups.specs.Groups.{has_text, is_ambiguous, is_asked, is_rival, occurring, same_text}
use Rattle.mentions_groups.specs.declared.mention.Mention.{Mention}
use Rattle.mentions_groups.specs.declared.state.MentionState.{MentionState}
use Rattle.mentions_groups.specs.declared.written.Written.{Written}
use Rattle.mentions_tables.specs.Asked.{untold}
use Rattle.mentions_tables.specs.Tables.{mention_in, mentions_in, second_table, with_names}
use Rattle.mentions_tables.specs.declared.subject.Subject.{Subject}
use Rattle.mentions_table_laws.specs.Ambiguous.{ConditionHolds, IsChosenRightly, ReadsAsTwo}
use Rattle.mentions_table_laws.proofs.Listing.{all-every, any-weaker, zip-maps}
use Rattle.mentions_table_laws.proofs.Settled.{settled}

pub some-text : (text : List ℕ) → text ≢ [] → not (length text == 0) ≡ true
some-text [] h = absurd (h refl)
some-text (c ∷ cs) h = ap not (eqb-suc-zero (length cs))

-- a mention of another entry that has its text is a rival
pub rivals : (m n : Mention) → n.text ≡ m.text → n.entry ≢ m.entry → is_rival m n ≡ true
rivals m n t e =
    and_from (bytes_eq m.text n.text) (not (nat_eq m.entry n.entry)) (ap (bytes_eq m.text) t ∙ texts_find.self m.text)
    (not_from_false (nat_eq m.entry n.entry) (ne_eqb m.entry n.entry (λ same. e (sym same))))

rivals-are : (m n : Mention) → is_rival m n ≡ true → (n.text ≡ m.text) × (n.entry ≢ m.entry)
rivals-are m n h =
    let parts = and_parts (bytes_eq m.text n.text) (not (nat_eq m.entry n.entry)) h in
    (sym (texts_find.equal m.text n.text parts.0), λ same. eqb-false m.entry n.entry (not-true (nat_eq m.entry n.entry) parts.1) (sym same))

module _ (mentions : List Mention) (m : Mention) where
  -- one that has its text, and a rival that occurs
  abbrev is_one : Mention → Bool
  is_one x = same_text m x && list_any (is_rival x) (occurring mentions)

  abbrev IsOther : Mention → Mention → Type 0
  IsOther x y = (y.occurs ≡ true) × ((y.text ≡ x.text) × (y.entry ≢ x.entry))

  abbrev IsOne : Mention → Type 0
  IsOne x = (x.occurs ≡ true) × ((x.text ≡ m.text) × Any (IsOther x) mentions)

  pub reads-as-two : is_asked mentions m ≡ true → ReadsAsTwo mentions m
  reads-as-two h =
      let parts = and_parts (has_text m) (list_any is_one (occurring mentions)) h in
      record {
        has_text = λ none. true≢false (sym parts.0 ∙ ap (λ t. not (length t == 0)) none);
        one = any-weaker (λ x. (x.occurs && is_one x) ≡ true) IsOne one mentions
            (Any-from_list_any (λ x. x.occurs && is_one x) mentions (sym (any-filter is_one (λ x. x.occurs) mentions) ∙ parts.1));
      }
    where
      other : (x y : Mention) → (y.occurs && is_rival x y) ≡ true → IsOther x y
      other x y e = let p = and_parts y.occurs (is_rival x y) e in (p.0, rivals-are x y p.1)

      one : (x : Mention) → (x.occurs && is_one x) ≡ true → IsOne x
      one x e =
          let p = and_parts x.occurs (is_one x) e in
          let q = and_parts (same_text m x) (list_any (is_rival x) (occurring mentions)) p.1 in (
            p.0,
            (
              sym (texts_find.equal m.text x.text q.0),
              any-weaker (λ y. (y.occurs && is_rival x y) ≡ true) (IsOther x) (other x) mentions
                  (Any-from_list_any (λ y. y.occurs && is_rival x y) mentions (sym (any-filter (is_rival x) (λ y. y.occurs) mentions) ∙ q.1)),
            ),
          )

  pub as-asked : ReadsAsTwo mentions m → is_asked mentions m ≡ true
  as-asked r =
      and_from (has_text m) (list_any is_one (occurring mentions)) (some-text m.text r.has_text)
      (any-filter is_one (λ x. x.occurs) mentions
      ∙ list_any-from_Any (λ x. x.occurs && is_one x) mentions (any-weaker IsOne (λ x. (x.occurs && is_one x) ≡ true) one mentions r.one))
    where
      other : (x y : Mention) → IsOther x y → (y.occurs && is_rival x y) ≡ true
      other x y e = and_from y.occurs (is_rival x y) e.0 (rivals x y e.1.0 e.1.1)

      one : (x : Mention) → IsOne x → (x.occurs && is_one x) ≡ true
      one x e =
          and_from x.occurs (is_one x) e.0
          (and_from (same_text m x) (list_any (is_rival x) (occurring mentions)) (ap (bytes_eq m.text) e.1.0 ∙ texts_find.self m.text)
          (any-filter (is_rival x) (λ y. y.occurs) mentions
          ∙ list_any-from_Any (λ y. y.occurs && is_rival x y) mentions (any-weaker (IsOther x) (λ y. (y.occurs && is_rival x y) ≡ true) (other x) mentions e.1.1)))

  -- what is asked to differ is ambiguous
  pub asked-ambiguous : is_asked mentions m ≡ true → is_ambiguous mentions m ≡ true
  asked-ambiguous h =
      let r = reads-as-two h in
      and_from (has_text m) (list_any (is_rival m) mentions) (some-text m.text r.has_text) (from r.one)
    where
      from : Any IsOne mentions → list_any (is_rival m) mentions ≡ true
      from x = by (cases_eq m.entry x.1.entry)
        where
          at : (k : ℕ) (y : Mention) → k < length mentions → get_or mentions k y ≡ y → y.text ≡ m.text → y.entry ≢ m.entry → list_any (is_rival m) mentions ≡ true
          at k y within there text apart = list_any_at (is_rival m) mentions k y within (ap (is_rival m) there ∙ rivals m y text apart)

          by : (m.entry ≡ x.1.entry) ⊎ (m.entry ≡ x.1.entry → ⊥) → list_any (is_rival m) mentions ≡ true
          by (inl same) = let y = x.4.1.1 in at y.0 y.1 y.2 y.3 (y.4.1.0 ∙ x.4.1.0) (λ e. y.4.1.1 (e ∙ same))
          by (inr apart) = at x.0 x.1 x.2 x.3 x.4.1.0 (λ e. apart (sym e))

  pub not-asked : is_ambiguous mentions m ≡ false → is_asked mentions m ≡ false
  not-asked e = by (is_asked mentions m) refl
    where
      by : (b : Bool) → is_asked mentions m ≡ b → b ≡ false
      by false f = refl
      by true f = absurd (true≢false (sym (asked-ambiguous f) ∙ e))

module _ {M : Type 0} (write : M → MentionState → Written) (subjects : List (Subject M)) where
  pub condition-holds : ConditionHolds write subjects (second_table write subjects) (map (settled write subjects) subjects)
  condition-holds =
      subst (All (IsChosenRightly write subjects (second_table write subjects))) (sym (zip-maps (with_names write subjects) (settled write subjects) subjects))
      (All-map (IsChosenRightly write subjects (second_table write subjects)) (λ s. (s, (with_names write subjects s, settled write subjects s))) subjects
      (all-every (λ s. IsChosenRightly write subjects (second_table write subjects) (s, (with_names write subjects s, settled write subjects s))) each subjects))
    where
      each : (s : Subject M) → IsChosenRightly write subjects (second_table write subjects) (s, (with_names write subjects s, settled write subjects s))
      each s =
          let mentions = mentions_in write subjects (second_table write subjects) in
          let m = mention_in write s (with_names write subjects s) in (
            λ h. let parts = and_parts (write s.mention untold).tested (is_asked mentions m) h in (parts.0, reads-as-two mentions m parts.1),
            λ h. and_from (write s.mention untold).tested (is_asked mentions m) h.0 (as-asked mentions m h.1),
          )
