-- The system ids that a network looks at.
use Rattle.std.specs.Prelude.{ℕ, if◌then◌else◌, Option, None, Some}
use Rattle.net_model.specs.Configuration.{Configuration}

-- the system id of a router, if it runs IS-IS
abbrev pub own_system : Configuration → Option ℕ
own_system c = if c.isis then Some c.system else None
