use Rattle.mentions_ranges.proofs.ReadNumbers.{numbers-read-back}
use Rattle.mentions_ranges.proofs.laws.number_ranges_can_be_read_back.Goals as goal

pub returns : goal.returns
returns c = numbers-read-back
