mod Values
mod Handles
mod SiteHandles
mod SeatLemmas
mod SiteLaws
