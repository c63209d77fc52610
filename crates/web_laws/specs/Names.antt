-- The names of a reply.
use Rattle.std.specs.Prelude.{Bool, true, ◌&&◌}
use Rattle.std.specs.List.{list_all}
use Rattle.login_base.specs.Names.{is_name}
use Rattle.asks.specs.declared.reply.Need.{Need}
use Rattle.asks.specs.declared.reply.Next.{Next}
use Rattle.asks.specs.declared.reply.Next.TheVariants as nexts
use Rattle.asks.specs.declared.reply.What.{What}
use Rattle.asks.specs.declared.reply.What.TheVariants as whats

abbrev pub need_has_name : Need → Bool
need_has_name need = is_name need.id

abbrev pub next_has_names : Next → Bool
next_has_names (nexts.Form code asked) = list_all need_has_name asked
next_has_names (nexts.Action code kind shown) = true

-- each name is one
abbrev pub has_names : What → Bool
has_names (whats.BadForm at) = is_name at
has_names (whats.OtherUser tab session) = is_name tab.name && is_name session.name
has_names (whats.BadCredentials next) = next_has_names next
has_names (whats.BadCode next) = next_has_names next
has_names (whats.CodeSpent step next) = next_has_names next
has_names (whats.Denied execution) = is_name execution
has_names (whats.NotConfigured execution) = is_name execution
has_names (whats.Done session user level) = is_name user.name
has_names (whats.ActionDone user kind) = is_name user.name
has_names (whats.Form code asked) = list_all need_has_name asked
has_names what = true
