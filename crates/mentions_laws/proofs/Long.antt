-- The cites of a request are arranged by the laws, whatever their positions are.
use Rattle.std.proofs.Common.{◌≡◌, ℕ, List, length, refl, ◌∙◌}
use Rattle.std.specs.Prelude.{zip}
use Rattle.std.proofs.Math.ListN.{length-map}
use Rattle.mentions_arranging.specs.Arranged.{arranged_request}
use Rattle.mentions_arranging.specs.Collapsing.{block_years, cite_ranges, collapse_of, collapsed_cites}
use Rattle.mentions_arranging.specs.Positioned.{positioned_cites}
use Rattle.mentions_arranging.specs.Requests.{Request}
use Rattle.mentions_arranging.specs.declared.positioned.PositionedCite.{PositionedCite}
use Rattle.mentions_arranging.specs.declared.request.FinalCite.{FinalCite}
use Rattle.mentions_notes.specs.declared.repeats.Position.{Position}
use Rattle.csl_driver.proofs.CslLong.{blocks-long, both-long, ranges-long}
use Rattle.mentions_laws.specs.Arranged.{AreArranged}
use Rattle.mentions_laws.proofs.Arranging.{are-arranged}

module _ {L : Type 0} (numbers : List ℕ) (r : Request (FinalCite L)) (positions : List Position) where
  abbrev cites : List (PositionedCite L)
  cites = positioned_cites r.cites positions

  ways-long : length (arranged_request numbers r positions) ≡ length cites
  ways-long =
      let blocks = block_years r.facts.style (collapse_of r.facts) cites in
      let ranges = cite_ranges (collapse_of r.facts) numbers cites in
      length-map (zip cites (collapsed_cites r.facts numbers cites)) _
      ∙ both-long cites (collapsed_cites r.facts numbers cites) (length cites) refl
      (length-map (zip blocks ranges) _ ∙ both-long blocks ranges (length cites) (blocks-long cites (length cites) refl r.facts.style (collapse_of r.facts)) (ranges-long cites (length cites) refl (collapse_of r.facts) numbers))

  pub arranged-by-neighbours : AreArranged cites numbers (collapse_of r.facts) (arranged_request numbers r positions)
  arranged-by-neighbours = are-arranged r.facts.style numbers cites (collapse_of r.facts) ways-long
