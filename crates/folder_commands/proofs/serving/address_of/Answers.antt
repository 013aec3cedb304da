-- What the word names.
use Rattle.std.proofs.Common.{inl, inr, refl, subst}
use Rattle.std.proofs.NetLemmas.Theorems.{IsIpv4Text_unique}
use Rattle.std.specs.Net.Addr.{IsMulticastV4}
use Rattle.folder_commands.proofs.serving.address_of.Goals as goal

pub returns-in_default-clause-address : goal.returns-in_default-clause-address
returns-in_default-clause-address c = (λ address text. absurd (c.in_default.ensures.value address text), c.misworded.ensures.ending)

pub returns-in_default-clause-why : goal.returns-in_default-clause-why
returns-in_default-clause-why c = inl (c.misworded.ensures.why, c.in_default.ensures.value)

pub returns-then-is_multicast-clause-why : goal.returns-then-is_multicast-clause-why
returns-then-is_multicast-clause-why c = inr (c.misworded-then-is_multicast.ensures.why, (_, c.in-Ok.ensures.value, c.if-is_multicast.ensures.0 refl))

pub returns-then-is_multicast-clause-address : goal.returns-then-is_multicast-clause-address
returns-then-is_multicast-clause-address c = (λ other text. subst IsMulticastV4 (IsIpv4Text_unique _ _ other c.in-Ok.ensures.value text) (c.if-is_multicast.ensures.0 refl), c.misworded-then-is_multicast.ensures.ending)
