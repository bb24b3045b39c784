-- Writers that write and note as others.
use Rattle.std.proofs.Common.{◌≡◌, ℕ, List, OnOk, ap}
use Rattle.std.specs.declared.result.Result.{Result}
use Rattle.std.specs.declared.result.Result.TheVariants.{Ok, Err}
use Rattle.driver_writers.specs.Desk.{Desk, after, desk}
use Rattle.driver_writers.specs.Tasks.{TaskValue}
use Rattle.driver_writers.specs.Writing.{WriterState}
use Rattle.mentions_cited.specs.Cited.{WritesOn}

module _ {E P N : Type 0} where
  -- once it was asked for something
  pub writes-on-after : (tasks : List (TaskValue E P)) (w v : WriterState E P N) (n m : ℕ) → desk v m ≡ after tasks (desk w n) → WritesOn w v
  writes-on-after tasks w v n m asked = record {
    cite = ap (λ (d : Desk E P N). d.writer.cite) asked;
    item = ap (λ (d : Desk E P N). d.writer.item) asked;
    date = ap (λ (d : Desk E P N). d.writer.date) asked;
    noting = ap (λ (d : Desk E P N). d.writer.noting) asked;
  }

-- where it was asked, in each way with which it agrees then
module _ {E P N T F Way : Type 0} (before now : Way → Type 0) (w v : Way → WriterState E P N) (n m : ℕ) (tasks : List (TaskValue E P)) where
  pub goes_on_where_ok : (r : Result T F) → OnOk r ((way : Way) → now way → before way)
      → OnOk r ((way : Way) → now way → desk (v way) m ≡ after tasks (desk (w way) n))
      → OnOk r ((way : Way) → now way → before way × WritesOn (w way) (v way))
  goes_on_where_ok (Ok x) agreed asked = λ way ok. (agreed way ok, writes-on-after tasks (w way) (v way) n m (asked way ok))
  goes_on_where_ok (Err y) agreed asked = tt
