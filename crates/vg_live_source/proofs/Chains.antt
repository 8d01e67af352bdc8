-- What has a chain is live.
use Rattle.std.proofs.Common.{ℕ, List, Some}
use Rattle.vg_source.specs.Values.{Heap}
use Rattle.vg_source.specs.Steps.{Source}
use Rattle.vg_live_source.specs.Members.{Member}
use Rattle.vg_live_source.specs.Rules.{Live, none, by}
use Rattle.vg_live_source.specs.Chains.{Chain, last, more}

pub chain_live : (p : Source) (h : Heap) (y : Member) (members : List Member) (lines : List ℕ) → Chain p h y members lines → Live p h (Some y)
chain_live p h y _ _ (last n rule also) = by rule none also
chain_live p h y _ _ (more n x {also} {members} {lines} rule second rest fresh) = by rule (chain_live p h x members lines rest) second
