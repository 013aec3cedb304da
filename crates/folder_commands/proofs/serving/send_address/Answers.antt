-- What the word names.
use Rattle.std.proofs.Common.{◌≡◌, Err, inr, refl, rules, subst, sym, true≢false, ⊎_elim}
use Rattle.std.proofs.NetLemmas.Theorems.{IsSocketV4Text_unique}
use Rattle.std.specs.Net.Addr.{IsMulticastV4}
use Rattle.std.specs.Net.Socket.{v4_ip}
use Rattle.folder_commands.proofs.serving.send_address.Goals as goal

pub returns-in-Ok : goal.returns-in-Ok
returns-in-Ok c =
    ⊎_elim
    (λ no. true≢false (sym (c.if-is_multicast.ensures.1 (subst IsMulticastV4 (sym c.ip.ensures) (subst (λ a. IsMulticastV4 (v4_ip a)) (IsSocketV4Text_unique _ _ _ no.1 c.in-Ok.ensures.value) no.2)))))
    (λ no. no.0 _ c.in-Ok.ensures.value)

pub returns-in_err-address : goal.returns-in_err-address
returns-in_err-address c =
    let is : c.from_residual.result ≡ Err c.in_err-address.field-0.0 = search rules in
    rw is (inr (c.in_default.ensures.value, c.in_err-address.ensures.address.0), c.in_err-address.ensures.address.1)

pub returns : goal.returns
returns c = ⊎_elim (λ no. c.in_default.ensures.value _ no.1) (λ no. c.in_ok-address.ensures.address no.1)
