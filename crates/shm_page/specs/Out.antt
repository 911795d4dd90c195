-- What a site sends when a message met its entry, as the definitions speak of it.
use Rattle.std.specs.Prelude.{Bool, true, false}
use Rattle.shm_model.specs.Entry as model
use Rattle.shm_model.specs.declared.request_kind.Kind.TheVariants as kind
use Rattle.shm_page.specs.declared.outgoing_message.Out.{Out}
use Rattle.shm_page.specs.declared.outgoing_message.Out.TheVariants.{Nothing, Cleared, Confirm, Read, Write}

abbrev pub out_of : {A : Type 0} → Out A → model.Out
out_of Nothing = model.Nothing
out_of (Cleared number) = model.ToManager (model.Cleared number)
out_of (Confirm number) = model.ToManager (model.Confirm number)
out_of (Read to grant) = model.ToSite to (model.Page grant.number kind.Read grant.bytes)
out_of (Write to grant) = model.ToSite to (model.Page grant.number kind.Write grant.bytes)

-- whether the page's bytes go to another site
abbrev pub carries_bytes : model.Out → Bool
carries_bytes model.Nothing = false
carries_bytes (model.ToManager _) = false
carries_bytes (model.ToSite _ _) = true
