-- What the indexes of requests point to.
use Rattle.std.specs.Prelude.{ℕ, List, Option, map, slice_get}
use Rattle.value_styles.specs.Style.{LocaleValue, StyleValue}
use Rattle.value_styles.specs.StyleView.{locale_view}
use Rattle.driver_styles.specs.TablesView.{locales_of}
use Rattle.value_sources.specs.declared.entry.PlainEntry.{PlainEntry}
use Rattle.document_requests.specs.FoundView.{found_views}
use Rattle.document_requests.specs.Indexes.{each_of, request_at}
use Rattle.document_requests.specs.JobView.{asked_request_view, asked_requests_view}
use Rattle.document_requests.specs.Requests.{RequestOf}
use Rattle.document_requests.specs.declared.requests.AskedRequest.{AskedRequest}
use Rattle.document_requests.specs.declared.requests.Targets.{Targets}

-- the locales that are asked for terms that a style doesn't have
abbrev pub files_in : Targets → List LocaleValue
files_in t = map locale_view (locales_of t.files.now)

-- the style that an index points to
abbrev pub style_in : Targets → ℕ → Option StyleValue
style_in t = slice_get (found_views t.styles.now)

-- a request with what its indexes point to, if all of it is there
abbrev pub request_in : Targets → AskedRequest → Option (RequestOf StyleValue PlainEntry)
request_in t r = request_at (slice_get t.entries.now) (style_in t) (asked_request_view r)

-- requests with what their indexes point to, if all of it is there
abbrev pub requests_in : Targets → List AskedRequest
    → Option (List (RequestOf StyleValue PlainEntry))
requests_in t rs =
    each_of (request_at (slice_get t.entries.now) (style_in t)) (asked_requests_view rs)
