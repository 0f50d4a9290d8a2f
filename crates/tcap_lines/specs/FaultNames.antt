-- The names of the faults of requests.
use Rattle.std.specs.Prelude.{ℕ, List, codes, Option, Some, None, ◌==◌, if◌then◌else◌}

-- The name of the fault of a request with this number (own; docs/PROFILE.md, Requests and their faults).
abbrev pub fault_name_of : ℕ → Option (List ℕ)
fault_name_of number =
    if number == 1 then Some (codes "out of memory")
    else if number == 2 then Some (codes "unknown dialogue")
    else if number == 3 then Some (codes "wrong state")
    else if number == 4 then Some (codes "invoke id in use")
    else if number == 5 then Some (codes "no such invocation")
    else if number == 6 then Some (codes "bad timeout")
    else if number == 7 then Some (codes "too long")
    else if number == 8 then Some (codes "dialogues full")
    else if number == 9 then Some (codes "dialogue ids spent")
    else if number == 10 then Some (codes "numbers spent")
    else if number == 11 then Some (codes "bad oid")
    else if number == 12 then Some (codes "bad parameter")
    else if number == 13 then Some (codes "not class four")
    else if number == 14 then Some (codes "moment too late")
    else if number == 15 then Some (codes "no context")
    else None
