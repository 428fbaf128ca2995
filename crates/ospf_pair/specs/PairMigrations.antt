-- The move of a network from one OSPF process to another.
use Rattle.net_model.specs.Network.{Network}
use Rattle.igp_theory.specs.Migrations.{Migration, migration}
use Rattle.igp_theory.specs.Ospf.{OspfEntry}

-- the migration of the old network from its OSPF tables to those of the new one
abbrev pub ospf_to_ospf : Network → Network → Migration
ospf_to_ospf old new = migration old (OspfEntry old) (OspfEntry new)
