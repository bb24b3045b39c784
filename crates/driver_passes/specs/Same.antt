-- What `==` of cites and of requests tells: entries are equal by their own `==`, payloads of the
-- caller's, and all else is the same, as plain data. What was prepared isn't looked at.
use Rattle.std.specs.Prelude.{◌≡◌, Bool, IsTrue, map, option_map}
use Rattle.std.specs.Cmp.Lexicographic.{pointwise}
use Rattle.std.specs.List.{AllZip}
use Rattle.std.specs.Option.{option_eq}
use Rattle.value_styles.specs.StyleView.{code_view, locale_view, style_view}
use Rattle.driver_passes.specs.Positions.{same_locators}
use Rattle.driver_passes.specs.Request.{RequestedCite}
use Rattle.driver_passes.specs.RequestView.{cites_view, order_view}
use Rattle.driver_passes.specs.declared.request.BibliographyRequest.{BibliographyRequest}
use Rattle.driver_passes.specs.declared.request.CitationRequest.{CitationRequest}

module _ {T P : Type 0} (entry_eq : T → T → Bool) (payload_eq : P → P → Bool) where
  pub record IsSameCite (a b : RequestedCite T P) : Type 0 where
    pub entry : IsTrue (entry_eq a.entry b.entry)
    pub locator : IsTrue (same_locators payload_eq a.locator b.locator)
    pub locale : a.locale ≡ b.locale
    pub hidden : a.hidden ≡ b.hidden
    pub purpose : a.purpose ≡ b.purpose
    pub apart : a.apart ≡ b.apart
    pub place : a.place ≡ b.place

  pub record IsSameRequest (a b : CitationRequest T P) : Type 0 where
    pub cites : AllZip IsSameCite (cites_view a.items.items) (cites_view b.items.items)
    pub style : style_view a.style.now ≡ style_view b.style.now
    pub locale : option_map code_view a.locale ≡ option_map code_view b.locale
    pub locales : map locale_view a.locale_files.now ≡ map locale_view b.locale_files.now
    pub note_number : a.note_number ≡ b.note_number

-- of requests for a bibliography
pub record IsSameWanted {T : Type 0} (entry_eq : T → T
    → Bool) (a b : BibliographyRequest T) : Type 0 where
  pub style : style_view a.style.now ≡ style_view b.style.now
  pub locale : option_map code_view a.locale ≡ option_map code_view b.locale
  pub locales : map locale_view a.locale_files.now ≡ map locale_view b.locale_files.now
  pub order : IsTrue (option_eq (pointwise entry_eq) (order_view a.order) (order_view b.order))
