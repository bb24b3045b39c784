use Rattle.std.proofs.Common.{◌≡◌, ◌∙◌, ◌++◌, ap, string_bytes}
use Rattle.write_html.proofs.Links.{Opens-written, no_text-written}
use Rattle.write_html.proofs.addresses.Address.opening.Goals as goal

pub returns-clause-opens : goal.returns-clause-opens
returns-clause-opens c =
    let inside : string_bytes c.push_str.new.self ≡ string_bytes c.in_ok-tag.tag ++ string_bytes c.args.self.now.value =
    c.in_ok-push_str.ensures.bytes ∙ ap (λ v. string_bytes c.in_ok-tag.tag ++ v) c.as_str.ensures.value in
    Opens-written _ _ _ _ c.in_ok-push_str-2.ensures.bytes inside c.in_ok-tag.ensures.ok c.args.self.now.is_address

pub returns-clause-no_text : goal.returns-clause-no_text
returns-clause-no_text c =
    let inside : string_bytes c.push_str.new.self ≡ string_bytes c.in_ok-tag.tag ++ string_bytes c.args.self.now.value =
    c.in_ok-push_str.ensures.bytes ∙ ap (λ v. string_bytes c.in_ok-tag.tag ++ v) c.as_str.ensures.value in
    no_text-written _ _ _ _ c.in_ok-push_str-2.ensures.bytes inside c.in_ok-tag.ensures.ok c.args.self.now.is_address
