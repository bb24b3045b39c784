use Rattle.value_sources.specs.Finds.{decides}
use Rattle.driver_assembly.proofs.Equal.{citations_find, items_find, bibliographies_find, answers_find}
use Rattle.driver_assembly.proofs.laws.answer_equality_decides.Goals as goal

pub returns : goal.returns
returns c = record { citation = decides citations_find; item = decides items_find; bibliography = decides bibliographies_find; answer = decides answers_find }
