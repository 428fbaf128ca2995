-- What a settled design makes of the configurations that a text is read as: the IS-IS of its routers, and nothing else.
use Rattle.std.specs.Prelude.{ℕ, ◌+◌, ◌*◌, ◌/◌, ◌%◌, Bool, true, ◌&&◌, ◌||◌, List, [], ◌∷◌, ◌++◌, Option, Some}
use Rattle.std.specs.Prelude.{None, All, Contains, bytes_eq, find}
use Rattle.std.specs.Prelude.{if◌then◌else◌, map, slice_get, unwrap_or}
use Rattle.net_addr.specs.JoinedLines.{is_of_whole_lines}
use Rattle.net_model.specs.Configuration.{Configuration}
use Rattle.net_model.specs.LevelSets.{has_level_one, has_level_two}
use Rattle.net_model.specs.Network.{Network}
use Rattle.net_model.specs.Refusals.{NamesAscend}
use Rattle.net_model.specs.declared.bounds.TheConstants.{MOST_DISTANCE}
use Rattle.net_model.specs.declared.config.Levels.{Levels}
use Rattle.net_model.specs.declared.config.Levels.TheVariants.{Both}
use Rattle.net_model.specs.declared.interface.Interface.{Interface}
use Rattle.ios_lines.specs.Words.{Word}
use Rattle.ios_reader.specs.InsertedLines.{IsClosed}
use Rattle.ios_reader.specs.Texts.{ReadsText}
use Rattle.design_file.specs.Settling.{FitsNetwork}
use Rattle.design_file.specs.declared.settled.SettledInterface.{SettledInterface}
use Rattle.design_file.specs.declared.settled.SettledRouter.{SettledRouter}
use Rattle.isis_writer.specs.Prepared.{numbered_from, prepared_text}
use Rattle.isis_writer.specs.ReadTexts.{ReadsTexts}

-- ---- an interface ----

-- an IS-IS interface runs a level that its router runs, where its circuit type has it too; a passive one needs no circuit type
abbrev pub runs_settled : (Levels → Bool) → Levels → SettledInterface → Bool
runs_settled has levels settled = has levels && (settled.passive || has (unwrap_or settled.circuit Both))

-- an interface for which this is settled: its levels, its metrics and whether it is passive for IS-IS are the design's
abbrev pub with_settled : Levels → SettledInterface → Interface → Interface
with_settled levels settled i = record i {
  level1 = runs_settled has_level_one levels settled;
  level2 = runs_settled has_level_two levels settled;
  metric1 = settled.metric;
  metric2 = settled.metric;
  isis_passive = settled.passive;
}

-- an interface for which something is settled or nothing is; in the second case it stays as it is, without IS-IS
abbrev pub interface_by : Levels → Option SettledInterface → Interface → Interface
interface_by levels None i = i
interface_by levels (Some settled) i = with_settled levels settled i

-- what is settled for the interface of this name
abbrev pub settled_for : Word → List SettledInterface → Option SettledInterface
settled_for name settled = find (λ (s : SettledInterface). bytes_eq s.name name) settled

-- an interface of a router for which this is settled
abbrev pub prepared_interface : SettledRouter → Interface → Interface
prepared_interface router i = interface_by router.levels (settled_for i.name router.interfaces) i

-- ---- a configuration ----

-- the system id of the router of this number: 0000.0000 and its number plus 1 as four decimal digits, each of them read as a
-- hexadecimal one
abbrev pub system_id : ℕ → ℕ
system_id number =
    4096 * ((number + 1) / 1000 % 10) + 256 * ((number + 1) / 100 % 10) + 16 * ((number + 1) / 10 % 10) + (number + 1) % 10

-- the configuration of a router of this number, for which this is settled: it has an IS-IS process without a tag, idle at
-- distance 255, and all that isn't of IS-IS is as it was
abbrev pub with_router : ℕ → SettledRouter → Configuration → Configuration
with_router number router c = record c {
  interfaces = map (prepared_interface router) c.interfaces;
  isis = true;
  tag = [];
  isis_area = router.area;
  system = system_id number;
  levels = router.levels;
  leak = router.leak;
  distances = record { ospf = c.distances.ospf; isis = MOST_DISTANCE };
}

-- a configuration for whose router something is settled or nothing is
abbrev pub configuration_with : ℕ → Option SettledRouter → Configuration → Configuration
configuration_with number None c = c
configuration_with number (Some router) c = with_router number router c

-- the configuration of a router with a number in the network, or of one that isn't in it
abbrev pub configuration_numbered : List SettledRouter → Option ℕ → Configuration → Configuration
configuration_numbered settled None c = c
configuration_numbered settled (Some number) c = configuration_with number (slice_get settled number) c

-- a configuration with what is settled for its router, which its name tells
abbrev pub prepared : Network → List SettledRouter → Configuration → Configuration
prepared net settled c = configuration_numbered settled (numbered_from 0 c.name net) c

-- ---- texts ----

-- a text is read as configurations of the routers of a network, no two of which have one name, and for which this is settled
pub record IsToPrepare (text : List ℕ) (net : Network) (settled : List SettledRouter) (configurations : List Configuration) : Type 0 where
  pub names : NamesAscend net
  pub fits : FitsNetwork net settled
  pub among : All (λ (c : Configuration). Contains net c) configurations
  pub reads : ReadsText text configurations

-- the prepared text is read as the same configurations, each with what is settled for its router
abbrev pub PreparedTextLaw : Type 0
PreparedTextLaw =
    (text : List ℕ) (net : Network) (settled : List SettledRouter) (configurations : List Configuration) →
    IsToPrepare text net settled configurations → ReadsText (prepared_text text net settled) (map (prepared net settled) configurations)

-- a text, with a line feed (10) more where it doesn't end with one
abbrev pub with_last_feed : List ℕ → List ℕ
with_last_feed text = if is_of_whole_lines text then text else text ++ 10 ∷ []

-- a text that may stand before another one, which is read as these configurations
pub record IsReadBefore (text : List ℕ) (configurations : List Configuration) : Type 0 where
  pub closed : IsClosed text
  pub reads : ReadsText text configurations

-- so is the prepared text with its last line feed, and another text may stand behind it
abbrev pub PreparedBeforeLaw : Type 0
PreparedBeforeLaw =
    (text : List ℕ) (net : Network) (settled : List SettledRouter) (configurations : List Configuration) →
    IsToPrepare text net settled configurations →
    IsReadBefore (with_last_feed (prepared_text text net settled)) (map (prepared net settled) configurations)

-- ---- several texts ----

-- texts are read as configurations of the routers of a network, no two of which have one name, and for which this is settled
pub record AreToPrepare (texts : List (List ℕ)) (net : Network) (settled : List SettledRouter) (configurations : List Configuration) : Type 0 where
  pub names : NamesAscend net
  pub fits : FitsNetwork net settled
  pub among : All (λ (c : Configuration). Contains net c) configurations
  pub read : ReadsTexts texts configurations

-- the prepared texts, each with its last line feed, one after the other
abbrev pub prepared_texts : Network → List SettledRouter → List (List ℕ) → List ℕ
prepared_texts net settled [] = []
prepared_texts net settled (text ∷ texts) = with_last_feed (prepared_text text net settled) ++ prepared_texts net settled texts

-- they are read, together, as the same configurations, each with what is settled for its router
abbrev pub PreparedTextsLaw : Type 0
PreparedTextsLaw =
    (text : List ℕ) (texts : List (List ℕ)) (net : Network) (settled : List SettledRouter) (configurations : List Configuration) →
    AreToPrepare (text ∷ texts) net settled configurations →
    ReadsText (prepared_texts net settled (text ∷ texts)) (map (prepared net settled) configurations)
