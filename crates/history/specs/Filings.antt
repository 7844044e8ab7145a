-- What demand 2 calls filed and kept: read off the list of calls and the answers to them, and before the first call off the tables.
use Rattle.std.specs.Prelude.{ℕ, zero, suc, Bool, true, false, cond, ◌&&◌, List, [], eqb, None, Option, Some, option_map}
use Rattle.types.specs.declared.Origin.{Origin}
use Rattle.types.specs.declared.Origin.TheVariants.{Public, Overrides}
use Rattle.types.specs.declared.Hop.TheVariants.{NoAttestation, ProviderPlus, NotProviderPlus}
use Rattle.as_path.specs.Reading.{content_of}
use Rattle.rules.specs.Hops.{HopFunction, lowest}
use Rattle.rules.specs.Records.{is_in}
use Rattle.rules.specs.Judging.{judged_route}
use Rattle.rules.specs.Draft as draft
use Rattle.register.specs.Register.{records_of}
use Rattle.registers.specs.Registers.{chosen}
use Rattle.ledger.specs.Routes.{Route, routes_of}
use Rattle.ledger.specs.Calls.{route_for}
use Rattle.rejudge.specs.Rejudging.{rejudged_route}
use Rattle.effects.specs.Calls.{verdict_in, path_in}
use Rattle.history.specs.Calls.{Call, file, withdraw, clear, keep, drop, rejudge, Tables, call_at, said, KeptRoute, route_read, find_record, find_route, providers_of, known}
use Rattle.history.specs.Replies.{shown, accepted}

-- Whether two are the same register.
abbrev pub same_origin : Origin → Origin → Bool
same_origin Public Public = true
same_origin Public Overrides = false
same_origin Overrides Public = false
same_origin Overrides Overrides = true

-- An accepted call decides which list the source has for the customer in a register if it is a filing or withdrawal of the pair there or a clearing
-- of the source there. Otherwise the calls before it decide.
abbrev pub filed_by : Origin → ℕ → ℕ → Call → Option (List ℕ) → Option (List ℕ)
filed_by o source customer (file p s c list) earlier = cond (same_origin p o && (eqb c customer && eqb s source)) (Some list) earlier
filed_by o source customer (withdraw p s c) earlier = cond (same_origin p o && (eqb c customer && eqb s source)) None earlier
filed_by o source customer (clear p s) earlier = cond (same_origin p o && eqb s source) None earlier
filed_by o source customer (keep k) earlier = earlier
filed_by o source customer (drop number) earlier = earlier
filed_by o source customer rejudge earlier = earlier

-- The source's last accepted list for the customer in a register among the first i calls, or else the one that t holds there, unless since withdrawn
-- or cleared. The latest call is looked at first.
unfoldable pub filed_list : Tables → List Call → ℕ → Origin → ℕ → ℕ → Option (List ℕ)
filed_list t l zero o source customer = providers_of (find_record (customer, source) (records_of (chosen o t.registers)))
filed_list t l (suc i) o source customer =
    cond (accepted (shown (said t l i))) (filed_by o source customer (call_at l i) (filed_list t l i o source customer)) (filed_list t l i o source customer)

-- The same for a route number: an accepted keeping or dropping of it decides.
abbrev pub kept_by : ℕ → Call → Option KeptRoute → Option KeptRoute
kept_by number (file o s c list) earlier = earlier
kept_by number (withdraw o s c) earlier = earlier
kept_by number (clear o s) earlier = earlier
kept_by number (keep k) earlier = cond (eqb k.number number) (Some (route_read k)) earlier
kept_by number (drop n) earlier = cond (eqb n number) None earlier
kept_by number rejudge earlier = earlier

-- The route kept under the number by the first i calls or held by t, and not since dropped.
unfoldable pub kept_route_at : Tables → List Call → ℕ → ℕ → Option KeptRoute
kept_route_at t l zero number = option_map known (find_route number (routes_of t.ledger))
kept_route_at t l (suc i) number =
    cond (accepted (shown (said t l i))) (kept_by number (call_at l i) (kept_route_at t l i number)) (kept_route_at t l i number)

-- ---- the hops over the filed lists

-- The lists of one register, by source and customer.
abbrev pub FiledLists : Type 0
FiledLists = ℕ → ℕ → Option (List ℕ)

-- There is a list; it holds y.
abbrev pub is_filed : Option (List ℕ) → Bool
is_filed None = false
is_filed (Some list) = true

abbrev pub is_listed : ℕ → Option (List ℕ) → Bool
is_listed y None = false
is_listed y (Some list) = is_in y list

-- One of the sources 0 to 7 has a list for x.
abbrev pub any_filed : FiledLists → ℕ → Bool
any_filed lists x = draft.some (λ source. is_filed (lists source x)) 0 8

-- hop(x, y) over one register: No Attestation if no source has a list for x, Provider+ by the lowest source whose list holds y, else Not Provider+.
unfoldable pub hop_filed : Origin → FiledLists → HopFunction
hop_filed o lists x y =
    cond (any_filed lists x)
    (cond (draft.some (λ source. is_listed y (lists source x)) 0 8)
    (ProviderPlus o (lowest (λ source. is_listed y (lists source x)) 0 8))
    (NotProviderPlus o))
    NoAttestation

-- Over both: if the overrides have any list for x, only they count for x; otherwise only the public register.
unfoldable pub hop_filed_over : FiledLists → FiledLists → HopFunction
hop_filed_over public overrides x = cond (any_filed overrides x) (hop_filed Overrides overrides x) (hop_filed Public public x)

-- The list of a source for x that counts so; empty where there is none.
abbrev pub list_if_any : Option (List ℕ) → List ℕ
list_if_any None = []
list_if_any (Some list) = list

unfoldable pub list_filed_over : FiledLists → FiledLists → ℕ → ℕ → List ℕ
list_filed_over public overrides source x = list_if_any (cond (any_filed overrides x) (overrides source x) (public source x))

-- The hops, and the lists that count, over what is filed after the first i calls.
abbrev pub hops_at : Tables → List Call → ℕ → HopFunction
hops_at t l i = hop_filed_over (filed_list t l i Public) (filed_list t l i Overrides)

abbrev pub list_at : Tables → List Call → ℕ → ℕ → ℕ → List ℕ
list_at t l i = list_filed_over (filed_list t l i Public) (filed_list t l i Overrides)

-- ---- the verdicts in the ledger

-- An accepted keeping stores its route with the verdict over these hops, and a re-judging gives a stored route without a ground the verdict over these.
abbrev pub stored_by : HopFunction → ℕ → Call → Option Route → Option Route
stored_by hop number (file o s c list) earlier = earlier
stored_by hop number (withdraw o s c) earlier = earlier
stored_by hop number (clear o s) earlier = earlier
stored_by hop number (keep k) earlier =
    cond (eqb k.number number)
    (Some (route_for k.number k.role k.neighbour (verdict_in (judged_route hop k.role k.neighbour k.attribute))
    (path_in (content_of k.role k.neighbour k.attribute))))
    earlier
stored_by hop number (drop n) earlier = cond (eqb n number) None earlier
stored_by hop number rejudge earlier = option_map (rejudged_route hop) earlier

-- The route stored under the number after the first i calls, with its verdict and places: over the lists that were filed when it was last judged, or
-- as t holds it if that was before the first call.
unfoldable pub stored_at : Tables → List Call → ℕ → ℕ → Option Route
stored_at t l zero number = find_route number (routes_of t.ledger)
stored_at t l (suc i) number =
    cond (accepted (shown (said t l i))) (stored_by (hops_at t l i) number (call_at l i) (stored_at t l i number)) (stored_at t l i number)
