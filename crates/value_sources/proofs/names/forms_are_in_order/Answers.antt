-- The orders of forms, and of the forms of several names.
use Rattle.std.proofs.Common.{refl}
use Rattle.value_sources.proofs.Orders.{forms_by_extent, forms_in_order, properties_in_order}
use Rattle.value_sources.proofs.names.forms_are_in_order.Goals as goal

pub returns : goal.returns
returns c = record { extents = forms_by_extent; first_difference = λ a b. refl; forms = forms_in_order; properties = properties_in_order }
