-- What is asked for by indexes, with what they point to in their places; none where one points to
-- nothing.
use Rattle.std.specs.Prelude.{◌≡◌, List, [], ◌∷◌, Option, Some, None, IsSome, Result, Ok, Err}
use Rattle.std.specs.declared.convert.Infallible.{Infallible}
use Rattle.driver_passes.specs.Request.{RequestedCite}
use Rattle.document_requests.specs.Form.{Asked}
use Rattle.document_requests.specs.Requests.{RequestOf, WantedOf}
use Rattle.document_values.specs.Reads.{Fails}
use Rattle.document_values.specs.Words.{◌>>=◌}
use Rattle.document_values.specs.declared.error.ReadError.{ReadError}

-- what each gives, where each gives something
abbrev pub each_of : {A B : Type 0} → (A → Option B) → List A → Option (List B)
each_of f [] = Some []
each_of f (x ∷ xs) = do
  y ← f x
  ys ← each_of f xs
  Some (y ∷ ys)

module _ {E F : Type 0} (entry : E → Option F) where
  -- a cite, with the entry that its index points to
  abbrev pub cite_at : RequestedCite E Infallible → Option (RequestedCite F Infallible)
  cite_at c = do
    cited ← entry c.entry
    Some (record {
      entry = cited;
      locator = c.locator;
      locale = c.locale;
      hidden = c.hidden;
      purpose = c.purpose;
      apart = c.apart;
      place = c.place;
    })

  -- an order of a bibliography, with the entries that its indexes point to
  abbrev pub order_at : Option (List E) → Option (Option (List F))
  order_at None = Some None
  order_at (Some xs) = do
    ys ← each_of entry xs
    Some (Some ys)

  module _ {S T : Type 0} (style : S → Option T) where
    -- a request, with what its indexes point to
    abbrev pub request_at : RequestOf S E → Option (RequestOf T F)
    request_at r = do
      by ← style r.style
      cites ← each_of cite_at r.cites
      Some (record {
        style = by;
        locale = r.locale;
        note_number = r.note_number;
        cites = cites;
      })

    -- a request for a bibliography, with what its indexes point to
    abbrev pub wanted_at : WantedOf S E → Option (WantedOf T F)
    wanted_at w = do
      by ← style w.style
      order ← order_at w.order
      Some (record { style = by; locale = w.locale; order = order })

    -- what is asked for, with what its indexes point to
    abbrev pub asked_at : Asked S E → Option (Asked T F)
    asked_at a = do
      requests ← each_of request_at a.requests
      wanted ← wanted_at a.wanted
      Some (record {
        requests = requests;
        wanted = wanted;
        offset = a.offset;
        rounds = a.rounds;
      })

-- what was read is, seen by view, what the form gives, and the form gives something
abbrev pub ReadsAll : {X Y : Type 0} → (X → Option Y) → Result X ReadError → Option Y → Type 0
ReadsAll view (Ok x) read = IsSome read × (view x ≡ read)
ReadsAll view (Err e) read = Fails e read
