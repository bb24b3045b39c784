pub mod Clients
pub mod CslClients
