-- What tells mentions apart, and what a writer is asked for on the way, by plain cites.
use Rattle.std.proofs.Common.{◌≡◌, ℕ, suc, ◌+◌, Bool, List, [], ◌∷◌, length, map, refl, ap, sym, ◌∙◌, arith}
use Rattle.std.specs.Prelude.{Err, IfOk, Ok, OnOk, Result}
use Rattle.value_sources.specs.Answers.{Answers}
use Rattle.mentions_cited.specs.Cited.{WritesOn, cited, cites, first_task, keeping_of, reading_of}
use Rattle.mentions_cited.specs.declared.kept.KeptOfMention.{KeptOfMention}
use Rattle.mentions_cited.specs.declared.kept.Noted.{Noted}
use Rattle.mentions_cited.specs.declared.mention.CiteMention.{CiteMention}
use Rattle.mentions_groups.specs.declared.state.MentionState.{MentionState}
use Rattle.mentions_cited.specs.Plain.{plain}
use Rattle.mentions_tables.specs.Asked.{MentionsWriter, asked_for, keeping, noted_all, reading}
use Rattle.mentions_tables.specs.Tables.{all_tasks, kept_again, kept_at_first, texts_told, third_table, year_suffixes}
use Rattle.mentions_tables.specs.declared.subject.Subject.{Subject}
use Rattle.mentions_tables.specs.declared.tables.Told.{Told}
use Rattle.mentions_tables.proofs.Mapped.{asked-mapped, kept-again-mapped, kept-at-first-mapped, suffixes-mapped, tasks-mapped, texts-mapped, third-mapped}
use Rattle.mentions_cites.specs.Mentions.{kept_last, told_mentions}
use Rattle.driver_writers.specs.Counted.{counted, counted_times}
use Rattle.driver_writers.specs.Desk.{after, desk}
use Rattle.driver_writers.specs.Tasks.{CiteTaskValue}
use Rattle.driver_writers.specs.Writing as writers
use Rattle.driver_writers.specs.Writing.{WriterState, writing_of}
use Rattle.driver_writers.proofs.Counting.{counted_times-add}
use Rattle.csl_driver.specs.Answer.{Job}
use Rattle.csl_driver.specs.CslAnswer.{mentions}
use Rattle.csl_driver.specs.CslParts.{AreToldApart}
use Rattle.csl_driver.specs.CslTasks.{mention_tasks, state_task}

module _ {E P N : Type 0} (w : WriterState E P N) (n : ℕ) where
  -- what is noted, one task after another, and the count
  noted-tasks : (ts : List (CiteTaskValue E P × MentionState)) (x : Noted N)
      → noted_all (cites w n).noting ts x ≡ record { notes = writers.noted_all w.noting (map (state_task w.cite) ts) x.notes; count = counted_times (length (map (state_task w.cite) ts)) x.count }
  noted-tasks [] x = refl
  noted-tasks (t ∷ ts) x =
      let k = length (map (state_task w.cite) ts) in
      let one : suc k ≡ k + 1 = omega arith in
      let once : counted_times (suc k) x.count ≡ counted_times k (counted x.count) = ap (λ j. counted_times j x.count) one ∙ counted_times-add k 1 x.count in
      noted-tasks ts ((cites w n).noting t x)
      ∙ (λ i. record { notes = writers.noted_all w.noting (map (state_task w.cite) ts) (w.noting (state_task w.cite t) x.notes); count = sym once i })

  module _ (ss : List (Subject (CiteMention E P))) where
    pub told-states : third_table (reading (cited w n)) ss ≡ third_table (reading_of w.cite) (map plain ss)
    told-states = third-mapped first_task (reading (cited w n)) (reading_of w.cite) refl ss

    pub told-suffixes : year_suffixes (reading (cited w n)) ss ≡ year_suffixes (reading_of w.cite) (map plain ss)
    told-suffixes = suffixes-mapped first_task (reading (cited w n)) (reading_of w.cite) refl ss

    pub told-mentions : told_mentions (kept_at_first (keeping (cited w n)) ss) (kept_again (keeping (cited w n)) ss (third_table (reading (cited w n)) ss)) (texts_told (reading (cited w n)) ss)
        ≡ told_mentions (kept_at_first (keeping_of w.cite) (map plain ss)) (kept_again (keeping_of w.cite) (map plain ss) (third_table (reading_of w.cite) (map plain ss))) (texts_told (reading_of w.cite) (map plain ss))
    told-mentions =
        let firsts = kept-at-first-mapped first_task (keeping (cited w n)) (keeping_of w.cite) refl ss in
        let again = ap (kept_again (keeping (cited w n)) ss) told-states ∙ kept-again-mapped first_task (keeping (cited w n)) (keeping_of w.cite) refl ss (third_table (reading_of w.cite) (map plain ss)) in
        let texts = texts-mapped first_task (reading (cited w n)) (reading_of w.cite) refl ss in
        λ i. told_mentions (firsts i) (again i) (texts i)

    pub told-lasts : kept_last (kept_at_first (keeping (cited w n)) ss) (kept_again (keeping (cited w n)) ss (third_table (reading (cited w n)) ss))
        ≡ kept_last (kept_at_first (keeping_of w.cite) (map plain ss)) (kept_again (keeping_of w.cite) (map plain ss) (third_table (reading_of w.cite) (map plain ss)))
    told-lasts =
        let firsts = kept-at-first-mapped first_task (keeping (cited w n)) (keeping_of w.cite) refl ss in
        let again = ap (kept_again (keeping (cited w n)) ss) told-states ∙ kept-again-mapped first_task (keeping (cited w n)) (keeping_of w.cite) refl ss (third_table (reading_of w.cite) (map plain ss)) in
        λ i. kept_last (firsts i) (again i)

    -- the desk then
    pub told-asked : (v : WriterState E P N) (m : ℕ) → cited v m ≡ asked_for (all_tasks (reading (cited w n)) ss) (cited w n) → WritesOn w v
        → desk v m ≡ after (map (state_task w.cite) (all_tasks (reading_of w.cite) (map plain ss))) (desk w n)
    told-asked v m asked on =
        let tasks : List (CiteTaskValue E P × MentionState) = all_tasks (reading_of w.cite) (map plain ss) in
        let same = tasks-mapped first_task (reading (cited w n)) (reading_of w.cite) refl ss in
        let noted =
        ap (λ (x : MentionsWriter (CiteMention E P) KeptOfMention (Noted N)). x.notes) (asked ∙ asked-mapped first_task (cites w n) (all_tasks (reading (cited w n)) ss))
        ∙ ap (λ ts. noted_all (cites w n).noting ts (cites w n).notes) same ∙ noted-tasks tasks (cites w n).notes in
        λ i. desk (record { cite = on.cite i; item = on.item i; date = on.date i; noting = on.noting i; notes = (noted i).notes }) (noted i).count

-- the mentions of a job, told apart by a writer, in each way with which it agrees then
module _ {E P N X Way : Type 0} (answers : E → Answers) (eq : E → E → Bool) (job : Job E P) (w : Way → WriterState E P N) (now : Way → Type 0) (n : ℕ) (ss : List (Subject (CiteMention E P)))
    (are : map plain ss ≡ mentions eq job) where
  pub told-apart : (result : Result (Told KeptOfMention) X) → IfOk result (λ t. (way : Way) → now way → t.states.items ≡ third_table (reading (cited (w way) n)) ss)
      → IfOk result (λ t. (way : Way) → now way → t.suffixes.items ≡ year_suffixes (reading (cited (w way) n)) ss)
      → IfOk result (λ t. (way : Way) → now way → t.texts.items ≡ texts_told (reading (cited (w way) n)) ss)
      → IfOk result (λ t. (way : Way) → now way → t.firsts.items ≡ kept_at_first (keeping (cited (w way) n)) ss)
      → IfOk result (λ t. (way : Way) → now way → t.again.items ≡ kept_again (keeping (cited (w way) n)) ss (third_table (reading (cited (w way) n)) ss))
      → IfOk result (λ t. (way : Way) → now way → AreToldApart eq job (writing_of answers (w way)) t)
  told-apart (Ok t) states suffixes texts firsts again = λ way ok.
      let v = w way in
      record {
        states = states way ok ∙ told-states v n ss ∙ ap (third_table (reading_of v.cite)) are;
        suffixes = suffixes way ok ∙ told-suffixes v n ss ∙ ap (year_suffixes (reading_of v.cite)) are;
        mentions = (λ i. told_mentions (firsts way ok i) (again way ok i) (texts way ok i)) ∙ told-mentions v n ss
            ∙ ap (λ ts. told_mentions (kept_at_first (keeping_of v.cite) ts) (kept_again (keeping_of v.cite) ts (third_table (reading_of v.cite) ts)) (texts_told (reading_of v.cite) ts)) are;
        lasts = (λ i. kept_last (firsts way ok i) (again way ok i)) ∙ told-lasts v n ss
            ∙ ap (λ ts. kept_last (kept_at_first (keeping_of v.cite) ts) (kept_again (keeping_of v.cite) ts (third_table (reading_of v.cite) ts))) are;
      }
  told-apart (Err e) states suffixes texts firsts again = tt

  pub apart-asked : (result : Result (Told KeptOfMention) X) (before : Way → Type 0) (v : Way → WriterState E P N) (m : ℕ)
      → OnOk result ((way : Way) → now way → cited (v way) m ≡ asked_for (all_tasks (reading (cited (w way) n)) ss) (cited (w way) n))
      → OnOk result ((way : Way) → now way → before way × WritesOn (w way) (v way))
      → OnOk result ((way : Way) → now way → desk (v way) m ≡ after (mention_tasks eq job (writing_of answers (w way))) (desk (w way) n))
  apart-asked (Ok t) before v m asked on = λ way ok.
      told-asked (w way) n ss (v way) m (asked way ok) (on way ok).1 ∙ ap (λ ts. after (map (state_task (w way).cite) (all_tasks (reading_of (w way).cite) ts)) (desk (w way) n)) are
  apart-asked (Err e) before v m asked on = tt
