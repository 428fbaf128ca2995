-- What contracts see of a router's configuration in the program.
use Rattle.net_model.specs.Configuration.{Configuration, IsConfiguration}
use Rattle.net_model.specs.declared.config.Config.TheInside.{Inside}

-- the configuration as plain data
abbrev pub config_view : Inside → Configuration
config_view c = record {
  name = c.name;
  interfaces = c.interfaces;
  process = c.process;
  isis = c.isis;
  tag = c.tag;
  isis_area = c.isis_area;
  system = c.system;
  levels = c.levels;
  leak = c.leak;
  ranges = c.ranges;
  stubs = c.stubs;
  rfc1583 = c.rfc1583;
  distances = c.distances;
}

-- it keeps the facts of a configuration
abbrev pub IsConfig : Inside → Type 0
IsConfig c = IsConfiguration (config_view c)
