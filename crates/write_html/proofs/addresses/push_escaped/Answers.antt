use Rattle.std.proofs.Common.{◌≡◌, true, arith, string_bytes}
use Rattle.std.specs.Prelude.{is_ok}
use Rattle.std.proofs.lemmas.Bool.Decides.{nat_tests}
use lib.Utf8.{encode}
use Rattle.write_html.specs.Address.{is_of_value}
use Rattle.write_html.proofs.Links.{on_ok}
use Rattle.write_html.proofs.Pushed.{all_encode, all_written, high_of_value}
use Rattle.write_html.proofs.addresses.push_escaped.Goals as goal

pub returns-in_default : goal.returns-in_default
returns-in_default c =
    let here : is_of_value c.args.c ≡ true = grind (arith, nat_tests) in
    on_ok c.push.result
    (all_written is_of_value (is_ok c.push.result) (string_bytes c.args.value.now)
    (string_bytes c.push.new.self) (encode c.args.c) c.push.ensures.bytes c.requires
    (all_encode is_of_value high_of_value c.args.c here))
