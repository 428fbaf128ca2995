-- The links of the sample network, a ring of n routers. Router i and the next one are joined by link i, the last router and
-- the first by link n. This project's own network: no standard speaks of it.
use Rattle.std.specs.Prelude.{ℕ, ◌+◌, ◌-◌, ◌*◌, ◌/◌, ◌^◌, ◌==◌, if◌then◌else◌}

-- ---- addresses ----

-- the loopback of router i is 10.0.0.i
abbrev pub loopback : ℕ → ℕ
loopback i = 10 * 2 ^ 24 + i

-- the subnet of link l is 10.1.l.0/30
abbrev pub subnet : ℕ → ℕ
subnet l = 10 * 2 ^ 24 + 2 ^ 16 + l * 2 ^ 8

-- router l has the first address on it, the next router the second
abbrev pub near_end : ℕ → ℕ
near_end l = subnet l + 1

abbrev pub far_end : ℕ → ℕ
far_end l = subnet l + 2

-- ---- what the links cost ----

-- the link between router i and the one before it
abbrev pub link_before : ℕ → ℕ → ℕ
link_before n i = if i == 1 then n else i - 1

-- the OSPF cost at both ends: only the last link is dear
abbrev pub sample_cost : ℕ → ℕ → ℕ
sample_cost n l = if l == n then 1000 else 1

-- the IS-IS metric at both ends: only the link in the middle of the ring is dear
abbrev pub sample_metric : ℕ → ℕ → ℕ
sample_metric n l = if l == n / 2 then 10000 else 10
