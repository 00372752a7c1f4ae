-- What the functions between the walk and the entries ensure, and what follows for two runs of one request.
pub mod Reporting
pub mod Running
pub mod Entries
