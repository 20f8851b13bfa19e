pub mod TcpWires
