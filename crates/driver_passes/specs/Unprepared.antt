-- Requests beside which nothing is kept that was prepared of their styles: each of their fields may
-- be written.
use Rattle.std.specs.Prelude.{IsNone}
use Rattle.driver_passes.specs.declared.request.BibliographyRequest.{BibliographyRequest}
use Rattle.driver_passes.specs.declared.request.CitationRequest.{CitationRequest}

abbrev pub IsUnprepared : {T P : Type 0} → CitationRequest T P → Type 0
IsUnprepared r = IsNone r.prepared

abbrev pub WantsUnprepared : {T : Type 0} → BibliographyRequest T → Type 0
WantsUnprepared w = IsNone w.prepared
