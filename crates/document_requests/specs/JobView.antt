-- What a `Job` stands for as plain data, with indexes in place of styles and entries.
use Rattle.std.specs.Prelude.{ℕ, List, map, option_map, string_bytes}
use Rattle.std.specs.declared.convert.Infallible.{Infallible}
use Rattle.value_styles.specs.StyleView.{code_view}
use Rattle.driver_passes.specs.Request.{RequestedCite}
use Rattle.driver_lookup.specs.Properties.{text_payload, LocatorValue}
use Rattle.document_requests.specs.Form.{Asked}
use Rattle.document_requests.specs.Requests.{RequestOf, WantedOf}
use Rattle.document_requests.specs.declared.document.Job.{Job}
use Rattle.document_requests.specs.declared.requests.AskedCite.{AskedCite}
use Rattle.document_requests.specs.declared.requests.AskedLocator.{AskedLocator}
use Rattle.document_requests.specs.declared.requests.AskedRequest.{AskedRequest}
use Rattle.document_requests.specs.declared.requests.Wanted.{Wanted}

abbrev pub asked_locator_view : AskedLocator → LocatorValue Infallible
asked_locator_view l = record { kind = l.kind; payload = text_payload (string_bytes l.text) }

abbrev pub asked_cite_view : AskedCite → RequestedCite ℕ Infallible
asked_cite_view c = record {
  entry = c.entry;
  locator = option_map asked_locator_view c.locator;
  locale = option_map code_view c.locale;
  hidden = c.hidden;
  purpose = c.purpose;
  apart = c.apart;
  place = 0;
}

abbrev pub asked_cites_view : List AskedCite → List (RequestedCite ℕ Infallible)
asked_cites_view = map asked_cite_view

abbrev pub asked_request_view : AskedRequest → RequestOf ℕ ℕ
asked_request_view r = record {
  style = r.style;
  locale = option_map code_view r.locale;
  note_number = r.note_number;
  cites = asked_cites_view r.items.items;
}

abbrev pub asked_requests_view : List AskedRequest → List (RequestOf ℕ ℕ)
asked_requests_view = map asked_request_view

abbrev pub asked_bibliography_view : Wanted → WantedOf ℕ ℕ
asked_bibliography_view w = record {
  style = w.style;
  locale = option_map code_view w.locale;
  order = option_map (λ v. v.items) w.order;
}

abbrev pub asked_view : Job → Asked ℕ ℕ
asked_view j = record {
  requests = asked_requests_view j.requests.items;
  wanted = asked_bibliography_view j.wanted;
  offset = j.offset;
  rounds = j.rounds;
}
