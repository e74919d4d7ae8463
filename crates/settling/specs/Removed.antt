-- A bridge as advance finds it after removal: the clock set, the streams that are still held, what the ports hold by themselves
-- decided, nothing reserved.
use Rattle.std.specs.Prelude.{List, map, Bool, not, ◌||◌, ℕ, replicate}
use Rattle.model.specs.State.{Settings, Domain, Own, Bridge, no_totals, Class, class_a, class_b, class_priority}
use Rattle.model.specs.Registrations.{change_addresses, change_domains, holding, owning}
use Rattle.model.specs.Settling.{remain, remain_addresses, expire_domain, any_domain, other_priority, domains_of, flag_of, decide_owns}
use Rattle.table.specs.Updates.{clocked, totalled}
use Rattle.domains.specs.Classes.{flagged}

-- of a class that a port supports: no Domain value is registered, or one of another priority
abbrev pub unmatched_of : Settings → Class → List Domain → Bool
unmatched_of st c ds = not (any_domain (domains_of c ds)) || other_priority (class_priority st c) 0 (domains_of c ds)

abbrev pub expired_own : Settings → ℕ → Own → Own
expired_own st now o = change_addresses (remain_addresses st now) (change_domains (map (expire_domain st now)) o)

abbrev pub flagged_own : Settings → ℕ → Own → Own
flagged_own st p o = flagged (flag_of st p class_a o.domains) (flag_of st p class_b o.domains) o

abbrev pub removed : ℕ → Bridge → Bridge
removed now b =
    let c = totalled (replicate 8 no_totals) (clocked now (holding b (remain b.settings now b.streams))) in
    owning c (decide_owns b.settings now b.owns)
